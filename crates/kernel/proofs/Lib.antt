pub mod Same
pub mod Beaten
pub mod Fronts
pub mod Settled
pub mod Issues
pub mod Rows
pub mod Numbers
