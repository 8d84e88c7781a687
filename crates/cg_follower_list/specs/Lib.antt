pub mod Disks
pub mod Followers
pub mod Life
pub mod Print
pub mod Seen
pub mod Turning
