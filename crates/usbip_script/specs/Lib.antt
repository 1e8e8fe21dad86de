pub mod Status
pub mod FaultText
pub mod OutputText
pub mod Scripts
