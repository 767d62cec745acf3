pub mod BoundOrder
pub mod RangeSegments
pub mod Complement
pub mod Intersection
pub mod Clones
pub mod Laws
