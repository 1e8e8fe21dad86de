pub mod ListLemmas
mod Vectors
