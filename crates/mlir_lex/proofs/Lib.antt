pub mod LongestRuns
pub mod Lengths
pub mod Fronts
pub mod Gaps
pub mod Pushed
pub mod Ascii
pub mod Lexed
pub mod Lexable
