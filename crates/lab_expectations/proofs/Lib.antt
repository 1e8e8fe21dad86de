pub mod LookingLemmas
pub mod MatchingLemmas
