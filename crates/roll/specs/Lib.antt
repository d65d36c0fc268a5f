pub mod Ranges
pub mod Tables
pub mod Entries
pub mod Firsts
pub mod Model
