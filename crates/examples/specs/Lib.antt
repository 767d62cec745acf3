pub mod Lock
pub mod Versions
