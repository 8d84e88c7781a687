pub mod JsonText
pub mod JsonTold
pub mod JsonLaws
pub mod Lines
