pub mod Grammars
pub mod Prints
pub mod Readings
pub mod Words
