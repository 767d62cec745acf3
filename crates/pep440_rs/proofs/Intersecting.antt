-- Ranges stay small, and are intersected in any grouping.
pub mod Associates
pub mod Neighbours
pub mod Count
pub mod Kept
pub mod WholeLine
