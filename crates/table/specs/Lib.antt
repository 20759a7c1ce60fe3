pub mod Records
pub mod Leads
pub mod State
pub mod Worklist
pub mod Settling
pub mod Own
pub mod Seen
pub mod Told
