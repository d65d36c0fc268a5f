pub mod Views
pub mod Makes
