pub mod Polynomial
pub mod Tree
pub mod Measure
pub mod Value
pub mod Variable
pub mod Side
pub mod Standing
pub mod Support
