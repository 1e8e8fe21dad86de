pub mod Status
pub mod Other
pub mod Source
pub mod FileFault
pub mod FileLine
pub mod EndLine
pub mod Total
pub mod UndescribedLine
