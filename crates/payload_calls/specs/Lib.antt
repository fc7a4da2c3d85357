pub mod Asked
pub mod AskedLemmas
pub mod Read
pub mod Write
pub mod Merge
pub mod Laws
