pub mod Written
pub mod Puts
pub mod Whole
pub mod Sizes
pub mod Open
pub mod Content
pub mod Composite
