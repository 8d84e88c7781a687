pub mod Limits
pub mod Bytes
pub mod Reading
pub mod RecordLaws
pub mod ItemLoopLaws
pub mod PassedLaws
pub mod CutLaws
