pub mod Lines
pub mod Beside
pub mod Explained
pub mod Told
