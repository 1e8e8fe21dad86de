pub mod SetReports
pub mod Turns
pub mod Words
