pub mod HistoryLemmas
pub mod HistoryEventLemmas
pub mod PieceLemmas
pub mod ScheduleLemmas
pub mod ItemMotionLemmas
pub mod AbortedRoundLemmas
pub mod MotionLemmas
pub mod IdleLemmas
pub mod KindLemmas
pub mod AgreementLemmas
pub mod NakLemmas
pub mod FairnessLemmas
pub mod ConvergenceLemmas
pub mod RoundLemmas
pub mod StillLemmas
mod Vectors
pub mod DeliveredLemmas
