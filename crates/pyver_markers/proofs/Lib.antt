pub mod BoxLaws
pub mod ShortVersions
pub mod Readings
pub mod FoundEnvironments
pub mod Texts
pub mod Versions
