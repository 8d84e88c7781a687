pub mod Asked
pub mod Closing
pub mod GoingOn
pub mod Happening
pub mod PutImages
pub mod Replaying
pub mod EndedReading
pub mod Cores
pub mod Tests
mod Counting
