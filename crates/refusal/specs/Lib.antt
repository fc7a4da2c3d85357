pub mod Refusal
pub mod Verdict
pub mod Order
pub mod RefusalLemmas
