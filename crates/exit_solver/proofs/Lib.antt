pub mod Levels
pub mod Arcs
pub mod Distances
pub mod Readings
pub mod Exits
