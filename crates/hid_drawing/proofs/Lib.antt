pub mod MakerLemmas
pub mod PieceLemmas
pub mod ItemLemmas
pub mod FieldLemmas
pub mod FillLemmas
mod Vectors
mod EscapeLemmas
pub mod TextLemmas
mod PictureVectors
