pub mod Block
pub mod Exports
pub mod BlockLists
pub mod Imports
