mod Plain
mod Refusals
mod Lending
mod Flows
mod Releases
mod Doing
pub mod Heard
mod Attaches
mod Detaches
mod Sizes
mod Lent
mod Closings
mod Takes
mod Leavings
mod Partings
mod Readies
mod Becoming
pub mod Barrings
pub mod Reached
mod AttachReadied
mod AttachServes
mod Dispositions
mod OneSettled
mod Stepped
mod Transfers
mod Transferred
mod Messages
mod Arrivals
pub mod Inside
pub mod OnBehind
pub mod FlowHeard
pub mod FlowLeft
mod FlowReadied
pub mod FlowServes
