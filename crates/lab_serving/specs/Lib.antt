pub mod Expecting
pub mod Parts
pub mod Reading
pub mod Advancing
pub mod Laws
