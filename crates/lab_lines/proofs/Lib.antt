pub mod BodyLemmas
pub mod ControlLemmas
pub mod HexLemmas
pub mod NameLemmas
pub mod RangeLemmas
pub mod TypingLemmas
mod Vectors
