mod Answers
pub mod Valid
pub mod Alike
pub mod FrameKeys
pub mod Untouched
pub mod InstallLemmas
