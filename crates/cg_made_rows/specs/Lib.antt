pub mod Grown
pub mod Kept
pub mod Laws
pub mod Line
pub mod Print
pub mod Rows
pub mod RowLaws
