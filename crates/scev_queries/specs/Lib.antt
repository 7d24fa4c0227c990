pub mod RunTexts
pub mod Answers
pub mod Passed
pub mod Shown
pub mod Kept
