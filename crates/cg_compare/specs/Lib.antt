pub mod Join
pub mod JoinText
pub mod Lines
pub mod Orders
pub mod Places
pub mod Seen
