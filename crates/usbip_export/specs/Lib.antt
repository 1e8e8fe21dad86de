pub mod ExportedDevices
pub mod Answers
pub mod Payloads
pub mod Descriptions
pub mod Faults
pub mod Connections
pub mod Holders
