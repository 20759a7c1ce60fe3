pub mod Written
pub mod Report
pub mod Outcome
pub mod Told
pub mod Listed
pub mod Rooms
