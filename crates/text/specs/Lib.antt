pub mod Lines
pub mod Mapped
pub mod Cells
pub mod Reading
pub mod Survey
pub mod Cases
pub mod Law
pub mod Text
