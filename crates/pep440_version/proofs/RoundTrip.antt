-- Prints, and that they are read again.
pub mod Writing
pub mod PrintIsRead
