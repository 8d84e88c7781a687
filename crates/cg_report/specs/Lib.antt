pub mod EntryText
pub mod NoEntry
pub mod LineText
