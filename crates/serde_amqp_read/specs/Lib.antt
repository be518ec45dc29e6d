pub mod Fetching
pub mod Pending
pub mod Reads
