mod Calls
mod Hears
mod OverLaws
mod BackLaws
