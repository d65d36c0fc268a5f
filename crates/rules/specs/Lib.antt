pub mod Codes
pub mod State
pub mod Starts
pub mod Tables
pub mod Fields
pub mod Effects
pub mod Refusals
pub mod Calls
