pub mod Answer
pub mod Preorder
pub mod Lists
pub mod Bytes
pub mod Code
pub mod Decimal
pub mod Writer
