pub mod Range
pub mod RangeLemmas
