pub mod Host
pub mod Device
pub mod Replies
pub mod Bus
pub mod Fate
pub mod Transaction
pub mod Exchange
