pub mod Words
pub mod Left
pub mod Grammar
pub mod Spelling
