pub mod TestedPlaces
pub mod Chains
pub mod Recurrences
pub mod StepTrees
