pub mod Requests
pub mod Descriptors
pub mod Undescribed
pub mod Tracking
pub mod Laws
pub mod Reports
pub mod InterfaceEndpoints
