pub mod Gaining
pub mod Looking
pub mod Placing
