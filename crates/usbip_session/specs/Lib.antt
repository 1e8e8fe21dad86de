pub mod Words
pub mod Timers
pub mod Failures
pub mod Session
pub mod Ends
pub mod Notices
pub mod Requests
