pub mod Longest
pub mod Refused
