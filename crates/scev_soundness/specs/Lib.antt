pub mod Holding
pub mod Agreement
pub mod Arguments
pub mod Numbering
pub mod Counted
