pub mod Items
pub mod Parts
pub mod Plan
pub mod Place
pub mod Progress
pub mod Following
pub mod PlanLaws
pub mod FilledLaws
