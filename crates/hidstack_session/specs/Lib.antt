pub mod Causes
pub mod Events
pub mod States
pub mod Sessions
pub mod Elements
pub mod Records
pub mod Tables
pub mod Writing
