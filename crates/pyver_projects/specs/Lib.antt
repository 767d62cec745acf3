pub mod ProjectStrings
pub mod RequirementStrings
pub mod ProjectTables
