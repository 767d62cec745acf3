pub mod Runs
pub mod OneAnswer
