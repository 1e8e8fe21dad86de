pub mod ListLemmas
pub mod CodeLemmas
pub mod WordLemmas
pub mod NoteLemmas
pub mod PutLemmas
pub mod FillLemmas
pub mod ItemLemmas
pub mod BlankLemmas
pub mod PartLemmas
pub mod ControlsLemmas
pub mod PlanLemmas
pub mod ShownLemmas
pub mod SkipLemmas
pub mod EmptyLemmas
pub mod ResetLemmas
pub mod KeyWordLemmas
pub mod PieceLemmas
mod PieceVectors
pub mod PlaceLemmas
pub mod DrawLemmas
pub mod SnapshotLemmas
pub mod SendLemmas
pub mod NumberLemmas
pub mod SwitchLemmas
pub mod EncodingLemmas
pub mod ReportLemmas
mod Vectors
