pub mod Carrying
pub mod Reread
pub mod Rewriting
pub mod Seen
