pub mod OutputLemmas
pub mod PlaceLemmas
pub mod SessionLemmas
pub mod RepeatLemmas
pub mod LineOutputLemmas
pub mod FlushLemmas
pub mod PrintingLemmas
pub mod AgreementLemmas
pub mod StreamLemmas
mod Vectors
