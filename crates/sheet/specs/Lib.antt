pub mod Events
pub mod Sheets
