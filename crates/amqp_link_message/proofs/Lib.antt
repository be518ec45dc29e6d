pub mod Bodies
pub mod Ending
pub mod Keeping
pub mod Listing
pub mod Rows
pub mod Sizes
