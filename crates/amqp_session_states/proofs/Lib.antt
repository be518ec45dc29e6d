pub mod States
pub mod Archetypes
pub mod Policies
