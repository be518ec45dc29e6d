pub mod Faithful
pub mod Takes
pub mod Deciding
pub mod Again
pub mod Described
