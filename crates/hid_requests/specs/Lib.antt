pub mod Class
pub mod RequestKinds
pub mod RequestSetup
pub mod Descriptors
pub mod Boot
pub mod Fault
