pub mod Slot
pub mod Marks
pub mod SlotLemmas
