pub mod Reversed
pub mod Joining
pub mod Cuts
pub mod Puttings
pub mod Closings
pub mod Finishings
pub mod Scalars
