pub mod Boxes
pub mod Conditions
pub mod Environments
pub mod Extents
pub mod MarkerComparisons
pub mod MarkerValues
