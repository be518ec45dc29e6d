pub mod Numbering
pub mod Asking
pub mod Beginning
pub mod History
pub mod Hearing
pub mod Asked
pub mod Inside
pub mod AskedSession
