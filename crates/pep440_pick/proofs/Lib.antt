pub mod Normal
pub mod Choosing
pub mod Extras
pub mod Parts
pub mod Tells
pub mod Whole
pub mod Joined
pub mod Once
