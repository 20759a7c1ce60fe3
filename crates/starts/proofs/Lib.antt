pub mod Sowing
pub mod Defaults
