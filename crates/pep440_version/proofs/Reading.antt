-- What is read of a text is what the grammar derives.
pub mod Prefixes
pub mod ReadIsDerived
pub mod Digits
pub mod SpelledIsRead
pub mod Endings
pub mod LocalAgrees
pub mod AfterRelease
pub mod PartsAgree
pub mod Agreement
pub mod WordAsPrefix
pub mod PublicAnswers
pub mod NormalParts
pub mod WithoutMemory
