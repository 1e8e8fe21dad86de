pub mod ItemNumbers
pub mod Units
pub mod ItemTable
pub mod Page
pub mod Drawing
pub mod Windows
