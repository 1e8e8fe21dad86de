pub mod RequestKindLemmas
pub mod DescriptorLemmas
mod Vectors
