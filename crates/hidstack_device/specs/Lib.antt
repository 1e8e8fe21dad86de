pub mod Causes
pub mod Making
pub mod Finding
pub mod Outputs
pub mod Transfers
pub mod Releasing
