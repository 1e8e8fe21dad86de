pub mod Expectations
pub mod Matching
