pub mod Terms
pub mod Expanded
pub mod Expandable
pub mod Added
pub mod Computed
