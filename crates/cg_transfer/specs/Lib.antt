pub mod Calls
pub mod Copies
