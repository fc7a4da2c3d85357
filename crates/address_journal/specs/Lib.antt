pub mod Crc32
pub mod Format
pub mod Held
pub mod Entry
pub mod EntryLemmas
pub mod Resume
pub mod Share
