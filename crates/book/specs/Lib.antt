pub mod Numbers
pub mod Letters
pub mod Layout
pub mod Faults
pub mod Verdict
pub mod Reader
