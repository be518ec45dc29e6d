pub mod Kept
pub mod Ready
pub mod Counting
pub mod Steps
pub mod Histories
pub mod Rows
pub mod Ends
pub mod AtOnce
