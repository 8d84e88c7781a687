pub mod SessionsLaw
pub mod FollowersLaw
pub mod EveryRelaxed
pub mod ShownLogs
