pub mod ModuleEnds
pub mod Refusals
pub mod OneInput
