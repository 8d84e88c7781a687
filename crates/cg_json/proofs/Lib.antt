pub mod Appended
pub mod Silence
pub mod Reread
