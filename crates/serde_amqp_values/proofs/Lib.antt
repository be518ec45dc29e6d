pub mod Choosing
pub mod Ordered
pub mod PairLaws
pub mod PairLemmas
pub mod Reading
pub mod SameLaws
pub mod Strict
