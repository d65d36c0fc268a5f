pub mod Instructions
pub mod Lines
pub mod Scripts
pub mod Listing
pub mod Lives
pub mod Views
pub mod Sinks
