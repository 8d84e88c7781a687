pub mod Computing
pub mod Replaying
