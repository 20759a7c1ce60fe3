pub mod Walk
pub mod Stride
pub mod Trail
