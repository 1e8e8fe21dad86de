pub mod Interfaces
pub mod Readable
pub mod Configuration
pub mod Fault
