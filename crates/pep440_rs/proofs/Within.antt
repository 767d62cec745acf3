-- Members made of bounds contain the releases within.
pub mod ReleaseMatching
pub mod PairMembers
pub mod ListMembers
