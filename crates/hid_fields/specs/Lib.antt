pub mod Field
pub mod Value
pub mod Word
