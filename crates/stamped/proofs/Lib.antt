pub mod Chosen
pub mod Numbers
pub mod Renumbered
