pub mod Predicate
pub mod Shape
pub mod Kind
pub mod Shown
pub mod Turns
pub mod Failing
pub mod Guard
