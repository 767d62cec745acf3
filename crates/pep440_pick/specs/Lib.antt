pub mod Names
pub mod RequirementGrammar
pub mod RequirementReading
pub mod Requirements
pub mod Newest
pub mod Allowed
