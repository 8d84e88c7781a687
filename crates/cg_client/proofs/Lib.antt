pub mod Splitting
pub mod Running
pub mod Choosing
pub mod Answering
pub mod Keeping
pub mod Naming
pub mod Lines
pub mod Weighing
