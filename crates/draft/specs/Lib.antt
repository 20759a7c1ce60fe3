pub mod Questions
pub mod Told
pub mod Index
pub mod Rules
