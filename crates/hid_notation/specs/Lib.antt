pub mod Text
pub mod Causes
