pub mod Commas
pub mod Added
pub mod Items
pub mod Texts
pub mod FirstLines
pub mod Nested
pub mod FuncLines
