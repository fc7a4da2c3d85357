pub mod Part
pub mod ByteLemmas
pub mod Numbers
pub mod CodecLaws
pub mod Fields
pub mod Effects
pub mod PartLemmas
