pub mod Answers
pub mod Lines
pub mod Picks
pub mod Commands
pub mod Runs
pub mod CommandErrors
pub mod LinesLeft
pub mod AnswerValues
