pub mod InputOutput
pub mod Filtering
pub mod SourceReads
pub mod CommandLaws
