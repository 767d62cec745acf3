pub mod KeyParts
pub mod SetBytes
pub mod Lists
pub mod Version
pub mod Strings
pub mod KeyViews
pub mod SetForms
