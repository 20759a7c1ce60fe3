pub mod Places
pub mod Numbered
pub mod Feet
pub mod Lengths
