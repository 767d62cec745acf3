-- What a held version means.
pub mod NumbersFit
