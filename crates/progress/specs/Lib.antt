pub mod Sizes
pub mod Progress
pub mod Told
pub mod Listed
