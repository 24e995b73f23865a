pub mod Resolved
pub mod Refusals
pub mod MadeNames
pub mod Resolve
pub mod Lower
pub mod Checks
pub mod Machines
pub mod Call
