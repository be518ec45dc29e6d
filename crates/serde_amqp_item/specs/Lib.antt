pub mod Item
pub mod Wire
pub mod Canon
pub mod Kind
pub mod Record
pub mod Entries
