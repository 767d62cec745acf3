-- Exactly one line of the refusals holds of a text that means nothing.
pub mod LongerTexts
pub mod LongerParts
pub mod LongestPrefix
pub mod ZeroForDigits
pub mod LinesDecide
pub mod FaultsOfParts
pub mod FaultsHaveErrors
pub mod ExactlyOne
