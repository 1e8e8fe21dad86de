pub mod OutputLemmas
pub mod PieceLemmas
pub mod ValueLemmas
pub mod PlaceLemmas
pub mod FlushLemmas
pub mod WordLemmas
pub mod PlayerLemmas
pub mod JsonLemmas
pub mod ActLemmas
pub mod CaptureLemmas
pub mod LiveLemmas
mod Vectors
