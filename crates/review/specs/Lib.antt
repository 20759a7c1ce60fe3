pub mod Reviewed
pub mod Told
