pub mod Placement
pub mod Claim
pub mod OwnCycles
