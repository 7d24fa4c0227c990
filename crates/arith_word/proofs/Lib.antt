pub mod Residues
pub mod Newton
pub mod LowestOne
pub mod Signs
pub mod Labels
