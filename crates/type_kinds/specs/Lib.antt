pub mod Tags
pub mod Types
