-- Lemmas of the parser of change words.
pub mod Items
pub mod Texts
