pub mod EndedLines
pub mod OwnLines
pub mod RefusedLines
pub mod RunFacts
