mod FittingCounts
mod KeptDefinitions
mod LoopPositions
mod SlotValues
pub mod Variables
pub mod Sums
pub mod Trees
pub mod Places
pub mod Terms
