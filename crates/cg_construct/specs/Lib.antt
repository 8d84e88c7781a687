pub mod Attempt
pub mod Steps
