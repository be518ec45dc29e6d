pub mod Rereading
pub mod Rewriting
pub mod Seeing
