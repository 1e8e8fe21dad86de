pub mod CountLemmas
pub mod ReleaseLemmas
pub mod Vectors
