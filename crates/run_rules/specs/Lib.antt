pub mod Run
pub mod Chart
pub mod StatedDirectly
pub mod Scopes
pub mod Premises
pub mod DemandPremises
pub mod Visits
