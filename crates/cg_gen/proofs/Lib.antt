pub mod Counting
pub mod EventsLeft
pub mod Blocks
pub mod Worked
