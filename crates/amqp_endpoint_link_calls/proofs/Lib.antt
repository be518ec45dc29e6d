pub mod Lent
pub mod Going
pub mod Done
pub mod Detached
pub mod Credited
pub mod Counting
pub mod Closed
pub mod Inside
pub mod Sent
pub mod Kept
pub mod Refusals
pub mod Disposed
pub mod MessagesInside
pub mod AttachLent
pub mod Own
pub mod AttachGoing
pub mod Entered
pub mod Resumed
pub mod Looked
pub mod Unsent
mod CreditAnswered
mod AskedAnswered
