pub mod Pages
pub mod Names
pub mod PageNames
