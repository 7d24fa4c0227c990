pub mod Copies
pub mod Children
pub mod Planned
pub mod Limits
pub mod Built
pub mod Steps
