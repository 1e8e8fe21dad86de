pub mod ItemEncoding
pub mod Reading
pub mod Fault
