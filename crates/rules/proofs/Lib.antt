pub mod Laws
pub mod RulebookLaws
pub mod NextLaws
