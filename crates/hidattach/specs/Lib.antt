pub mod Status
pub mod EventLines
pub mod OutputLines
