-- Which conversions raise the greatest number there is.
pub mod LastRaised
pub mod Refused
pub mod AtMax
