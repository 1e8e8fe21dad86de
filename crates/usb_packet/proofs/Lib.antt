pub mod PidLemmas
mod Vectors
