-- The number of a fault.
pub use Rattle.listing.specs.Faults.{number_of}
