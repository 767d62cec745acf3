pub mod SplitWords
pub mod Settings
pub mod Tasks
pub mod TaskViews
pub mod RequirementFiles
pub mod Checks
