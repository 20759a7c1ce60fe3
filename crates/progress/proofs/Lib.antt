pub mod Working
pub mod Seeds
pub mod Chosen
