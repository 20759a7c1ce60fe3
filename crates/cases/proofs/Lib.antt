pub mod Exact
pub mod Reached
