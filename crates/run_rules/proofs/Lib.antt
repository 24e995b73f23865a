pub mod Booleans
pub mod Prefixes
pub mod Tested
pub mod PremisesTested
pub mod RunTables
pub mod RunFacts
pub mod ChartFacts
pub mod VisitFacts
