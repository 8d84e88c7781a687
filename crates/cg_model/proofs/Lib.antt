mod Rows
mod Knowing
mod Commuting
mod Led
mod Steps
mod Recording
mod Counting
mod Following
