pub mod BusLemmas
pub mod AckLemmas
pub mod EndpointLemmas
pub mod DeviceLemmas
pub mod DueLemmas
pub mod InputLemmas
pub mod OutputLemmas
pub mod ResetLemmas
mod Vectors
