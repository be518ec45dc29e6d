pub mod Descriptions
pub mod Clones
pub mod Ids
pub mod Rows
