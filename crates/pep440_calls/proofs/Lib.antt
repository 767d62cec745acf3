pub mod Placed
pub mod Once
pub mod Forms
pub mod Allowed
