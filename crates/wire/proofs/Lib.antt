pub mod Answers
pub mod Bounds
pub mod Preorders
pub mod Codes
pub mod Formats
pub mod TreeFormats
pub mod Writers
