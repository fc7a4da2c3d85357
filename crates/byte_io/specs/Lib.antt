pub mod BigEndian
pub mod BigEndianLemmas
pub mod Write
pub mod WriteLemmas
