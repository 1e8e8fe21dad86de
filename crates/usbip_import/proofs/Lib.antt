pub mod FlightLemmas
pub mod SendingLemmas
pub mod RunLemmas
