pub mod QueueLemmas
pub mod OnceLemmas
pub mod ProgressLemmas
pub mod ReportPieceLemmas
pub mod TransferLemmas
pub mod EndpointLemmas
pub mod ReplyLemmas
pub mod PollTransactionLemmas
pub mod PartEncodingLemmas
pub mod VirtualDeviceLemmas
pub mod ScheduleLemmas
mod Vectors
