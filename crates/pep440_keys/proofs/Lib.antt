pub mod Bytes
pub mod Codes
pub mod Order
