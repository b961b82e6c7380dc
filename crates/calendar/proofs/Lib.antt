pub mod Bits
pub mod CalendarLaws
pub mod LiveLaws
pub mod EveryDay
