pub mod TableLemmas
mod Vectors
