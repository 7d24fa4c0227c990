pub mod Exits
pub mod Reductions
pub mod Entries
pub mod Built
pub mod Made
pub mod Grown
