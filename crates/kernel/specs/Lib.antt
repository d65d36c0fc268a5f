pub mod Views
pub mod Obeys
