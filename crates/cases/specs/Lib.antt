pub mod Made
pub mod Samples
pub mod Notions
pub mod Refuted
pub mod Edges
