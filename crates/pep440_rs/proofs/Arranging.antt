-- Lists: their arrangement, and matching in its order.
pub mod Sorting
pub mod Arranged
pub mod InOrder
