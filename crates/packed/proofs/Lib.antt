pub mod PlaceFacts
pub mod Walks
pub mod RowFacts
