pub mod Calls
pub mod ImageLaws
pub mod Images
pub mod Inspecting
pub mod InspectingLaws
pub mod Told
