pub mod AllMade
pub mod DiskOut
pub mod Led
pub mod MadeActions
pub mod SoFar
pub mod Standing
pub mod Steps
