pub mod Digits
pub mod Grammar
pub mod MessageWords
pub mod Parsed
pub mod Printed
pub mod Script
pub mod Terms
