pub mod MessageLemmas
pub mod PendingLemmas
mod Vectors
