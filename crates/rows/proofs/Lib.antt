pub mod MonthRows
