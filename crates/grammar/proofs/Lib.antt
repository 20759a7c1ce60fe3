pub mod Cuts
pub mod Numerals
pub mod Prints
pub mod Spelt
