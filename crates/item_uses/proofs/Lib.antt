mod RegionUses
mod Marking
mod UsedBack
mod FoundUses
mod AffectedChains
mod UsedChains
mod UsesGoBack
