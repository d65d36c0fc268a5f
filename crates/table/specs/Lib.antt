pub mod Ranges
pub mod Rows
pub mod Timers
pub mod Wakes
pub mod Clocks
pub mod Times
