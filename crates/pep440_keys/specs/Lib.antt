pub mod SortKeys
pub mod RangeKeys
