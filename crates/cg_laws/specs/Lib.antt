pub mod Told
pub mod ToldJson
pub mod TwoRuns
pub mod Admitted
pub mod Reordered
