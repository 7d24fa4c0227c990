pub mod Uses
pub mod Marks
