mod Calls
mod Settled
mod Strays
