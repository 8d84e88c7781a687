pub mod RowLemmas
pub mod CutRises
pub mod StretchLemmas
pub mod FlagLemmas
pub mod RedLemmas
pub mod FindLemmas
pub mod Soundness
pub mod Renaming
mod Turning
mod Places
mod AscendingReds
pub mod ShownReds
mod PlainReds
mod RedsAbove
mod NoneTwice
