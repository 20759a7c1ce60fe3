pub mod Starts
pub mod Targets
pub mod Gathered
