pub mod Written
pub mod Telling
pub mod Chosen
pub mod Beside
