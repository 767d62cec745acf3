-- Prints, and that they are read again.
pub mod Prints
pub mod SegmentLines
pub mod Plain
pub mod Shown
pub mod Around
pub mod Direct
pub mod Again
pub mod ListAgain
