-- Ranges agree with matching.
pub mod VersionOrder
pub mod Prefix
pub mod Suffixes
pub mod Less
pub mod Greater
pub mod Star
pub mod Single
pub mod Releases
pub mod Operands
pub mod ListRanges
pub mod TextAgreement
