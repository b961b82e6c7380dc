pub mod KindLaws
pub mod DigitLaws
pub mod RefusalLaws
pub mod ReadLaws
pub mod NameLaws
