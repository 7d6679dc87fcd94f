pub mod CellLists
pub mod Meaning
