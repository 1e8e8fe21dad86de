pub mod Flights
pub mod Submits
pub mod Sending
pub mod Taking
pub mod Faults
pub mod Runs
