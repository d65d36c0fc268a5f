pub mod Histories
pub mod Asks
pub mod Laws
pub mod Runs
