pub mod Linking
pub mod GivingBack
pub mod Handed
pub mod Calling
pub mod Ending
pub mod Hearing
