pub mod Rows
pub mod Given
