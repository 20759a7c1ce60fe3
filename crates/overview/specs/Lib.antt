pub mod Outlined
