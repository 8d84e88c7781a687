pub mod ServerLemmas
pub mod Falling
