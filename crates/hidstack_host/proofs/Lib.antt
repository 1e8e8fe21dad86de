pub mod FindLemmas
pub mod RoomLemmas
mod Vectors
