pub mod ExtentLemmas
pub mod BlockLemmas
pub mod GatherLemmas
pub mod OptionLemmas
pub mod StepLemmas
pub mod CaptureLemmas
mod Vectors
