pub mod Factors
pub mod Records
pub mod Rolls
pub mod Totals
