pub mod MapLemmas
pub mod ViewLemmas
pub mod PlanLemmas
pub mod AloneLemmas
pub mod KeyLemmas
pub mod LimitLaws
