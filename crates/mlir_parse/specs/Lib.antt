pub mod Tables
pub mod Runs
pub mod Seen
pub mod Refused
