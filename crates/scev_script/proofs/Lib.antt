pub mod Ascii
pub mod Digits
pub mod ByteLists
pub mod WordNumbers
pub mod Splits
pub mod Counts
pub mod CommandShapes
pub mod InputLaws
