pub mod Scans
pub mod Rows
pub mod Meaning
