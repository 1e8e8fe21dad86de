pub mod TextLemmas
mod Vectors
