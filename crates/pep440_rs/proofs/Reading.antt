-- Texts of specifiers and lists, and JSON strings: what is read is what the grammar says.
pub mod Scanning
pub mod Cuts
pub mod Spelled
pub mod Steps
pub mod Patterns
pub mod Passed
pub mod Tells
pub mod Answered
pub mod Told
pub mod Pieces
pub mod ListTells
pub mod ListTold
pub mod OneMeaning
pub mod JsonStrings
