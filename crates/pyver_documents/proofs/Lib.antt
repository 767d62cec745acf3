pub mod Walks
pub mod LockedPackages
pub mod Holding
pub mod Agreeing
pub mod Once
