pub mod ReadyLemmas
pub mod ControlLemmas
