pub mod Places
pub mod Complement
pub mod Overlap
pub mod Merging
pub mod Laws
pub mod Searching
