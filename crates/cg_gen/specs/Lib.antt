pub mod Generated
pub mod Waiting
pub mod Lines
pub mod Written
pub mod GeneratedLaws
