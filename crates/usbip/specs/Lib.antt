pub mod Messages
pub mod Operations
pub mod OperationReplies
pub mod Faults
pub mod Pending
