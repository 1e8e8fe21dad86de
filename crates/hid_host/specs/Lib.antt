pub mod Faults
pub mod Ready
pub mod Phase
pub mod Conclusions
pub mod Host
pub mod ResetEvents
