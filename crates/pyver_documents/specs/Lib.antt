pub mod DocumentKinds
pub mod Meanings
pub mod DocumentViews
pub mod Together
pub mod Comparing
pub mod DocumentLaws
