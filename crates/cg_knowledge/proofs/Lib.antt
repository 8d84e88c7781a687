pub mod Filtered
mod LawProofs
mod MostUpdated
