pub mod SummaryFields
pub mod MsgFields
