pub mod Limiting
pub mod Defaults
pub mod Clones
pub mod Tables
