pub mod Causes
pub mod Events
pub mod Moved
pub mod Info
pub mod Asking
pub mod Reading
pub mod Hosts
pub mod Finding
