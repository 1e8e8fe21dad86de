pub mod ControlTransfers
pub mod InterruptTransfers
pub mod BringUp
pub mod Runs
