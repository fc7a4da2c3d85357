pub mod Rising
pub mod Reserved
pub mod Example
