pub mod LockContents
pub mod KnownEnvironments
pub mod PackageRequirements
pub mod LockedFiles
pub mod Locks
