pub mod PipeLemmas
pub mod AtOnceLemmas
pub mod InterfaceLemmas
pub mod TransferLemmas
pub mod HoldingLemmas
pub mod BringUpLemmas
pub mod VirtualDeviceLemmas
pub mod RoomLemmas
pub mod CutLemmas
pub mod DriverLemmas
mod Vectors
