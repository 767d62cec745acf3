-- Comparisons one after another, and zeros at the end of a release.
pub mod Comparisons
