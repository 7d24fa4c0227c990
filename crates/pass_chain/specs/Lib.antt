pub mod Finding
pub mod Kept
pub mod Parts
pub mod Plans
pub mod Records
pub mod Children
pub mod Given
