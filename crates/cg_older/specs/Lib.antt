pub mod Weights
pub mod Bytes
pub mod Reading
pub mod Older
pub mod OldDisk
