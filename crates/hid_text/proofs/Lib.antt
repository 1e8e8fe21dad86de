pub mod WordLemmas
pub mod PartLemmas
pub mod TableLemmas
pub mod NumberLemmas
mod LineVectors
pub mod ValueLemmas
pub mod LayoutLemmas
pub mod PollLemmas
pub mod PlainLemmas
pub mod EventLineLemmas
pub mod LineLemmas
pub mod PieceLemmas
pub mod ShownLemmas
mod Vectors
mod NamedLemmas
