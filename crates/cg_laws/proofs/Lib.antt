pub mod Separating
pub mod Numbers
pub mod Parts
pub mod Quoting
pub mod Names
pub mod Commands
pub mod Lines
pub mod Shows
pub mod Entries
pub mod Reports
pub mod Tails
pub mod JsonReports
pub mod LastLines
pub mod TwoRuns
mod Refuted
pub mod Calm
pub mod CalmMarks
pub mod CalmRows
pub mod CalmEnds
pub mod GroupStands
pub mod WorldStands
pub mod Admits
pub mod Steps
pub mod Cells
pub mod Blocks
pub mod Schedule
pub mod Within
pub mod Spelling
pub mod Playing
pub mod Trials
mod Near
mod Best
mod Joined
mod Knowing
mod Planning
