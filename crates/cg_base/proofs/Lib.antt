pub mod Cutting
pub mod Canonical
pub mod WordLemmas
pub mod ArrayLemmas
pub mod WeightLemmas
pub mod CutLemmas
pub mod RunLemmas
