pub mod FieldLemmas
pub mod PartLemmas
pub mod ValueLemmas
pub mod Vectors
pub mod WordLemmas
