pub mod Blank
pub mod Faults
pub mod Texts
