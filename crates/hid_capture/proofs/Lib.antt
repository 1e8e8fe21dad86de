pub mod ConfigurationLemmas
pub mod EndpointLemmas
pub mod ListPlaces
pub mod ReportLemmas
pub mod TruncationLemmas
pub mod UndescribedLemmas
mod Vectors
