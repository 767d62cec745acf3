pub mod Ordering
pub mod Meaning
pub mod RoundTrip
pub mod Reading
pub mod Rows
pub mod Rejections
pub mod Words
pub mod ChangeWords
