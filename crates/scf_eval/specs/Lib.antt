pub mod Layout
pub mod Machine
pub mod States
pub mod InScope
