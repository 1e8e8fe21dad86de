pub mod Vectors
pub mod WritingLemmas
