pub mod Spelling
pub mod Clean
pub mod Handing
mod Search
mod Found
mod TaskFaults
mod Order
mod First
mod Held
