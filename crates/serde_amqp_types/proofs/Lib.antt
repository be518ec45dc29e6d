pub mod Arrays
pub mod UbyteFields
pub mod Descriptions
pub mod Multiples
