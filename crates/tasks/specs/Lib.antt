pub mod Factors
pub mod Views
