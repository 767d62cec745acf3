pub mod Escapes
pub mod Newlines
pub mod Streams
pub mod Runs
