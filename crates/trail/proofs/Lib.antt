pub mod Calls
pub mod Led
pub mod Steps
pub mod Table
pub mod Passing
pub mod Walking
pub mod Spelt
