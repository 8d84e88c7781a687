pub mod Apart
pub mod Parts
pub mod Print
pub mod Sessions
