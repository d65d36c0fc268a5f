pub mod Searches
pub mod Meaning
pub mod Holding
