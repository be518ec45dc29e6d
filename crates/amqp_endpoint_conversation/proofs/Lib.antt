mod AtOnce
mod OneSettled
mod Answering
mod Conditions
mod Hearings
mod RoomsKept
mod Lists
mod Places
mod Handing
mod HearingsFit
mod Tellings
mod Ends
mod Begins
mod Fitting
pub mod Alone
pub mod Calls
pub mod Clearing
pub mod Goings
pub mod Windows
pub mod Inside
pub mod HeardWindows
