pub mod Grouped
pub mod Lines
pub mod MarkerReadings
pub mod MarkerStepReadings
pub mod OptionWords
