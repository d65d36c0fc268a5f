pub mod Beats
pub mod Counts
pub mod Orders
pub mod Adds
pub mod Removes
pub mod Rings
