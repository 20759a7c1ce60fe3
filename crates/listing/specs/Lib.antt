pub mod Statements
pub mod Procedures
pub mod Meaning
pub mod Callers
pub mod Lawful
pub mod Faults
pub mod Refusals
pub mod Texts
