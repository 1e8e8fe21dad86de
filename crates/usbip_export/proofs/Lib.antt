pub mod AnswerLemmas
pub mod PayloadLemmas
pub mod HolderLemmas
pub mod DescriptionLemmas
pub mod RoomLemmas
mod Vectors
