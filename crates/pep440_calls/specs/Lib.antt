pub mod CallerBytes
pub mod Statuses
pub mod CallResults
pub mod Batches
pub mod Explanations
