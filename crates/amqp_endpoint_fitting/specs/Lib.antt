pub mod Read
pub mod Fits
pub mod Handed
pub mod Plain
