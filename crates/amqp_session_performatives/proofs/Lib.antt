pub mod Clones
pub mod Reading
pub mod Within
