pub mod Nodes
pub mod Interned
pub mod Reads
pub mod Closing
