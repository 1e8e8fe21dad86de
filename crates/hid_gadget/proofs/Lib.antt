pub mod TransferLemmas
pub mod RoomLemmas
pub mod PollLemmas
pub mod PartEncodingLemmas
pub mod SoundLemmas
pub mod TakeLemmas
pub mod ResultLemmas
pub mod ReceiveLemmas
pub mod AgreementLemmas
pub mod RestLemmas
pub mod TransferCountLemmas
pub mod ReadLemmas
mod Vectors
