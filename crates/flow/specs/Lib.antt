pub mod Faults
pub mod Relation
pub mod Origins
pub mod CellFacts
pub mod Unset
pub mod Raw
pub mod Choices
pub mod Guarded
