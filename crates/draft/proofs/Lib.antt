pub mod Flows
pub mod Homes
pub mod Failing
pub mod Verdicts
pub mod Told
pub mod Calls
