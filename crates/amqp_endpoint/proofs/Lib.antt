mod Related
mod Heard
mod Arrived
mod AttachedLinks
pub mod Messages
pub mod Writing
pub mod Unsent
