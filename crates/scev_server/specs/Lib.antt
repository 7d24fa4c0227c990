pub mod Walk
pub mod Equal
pub mod Members
pub mod Output
pub mod Shown
pub mod Options
pub mod Reply
pub mod Serving
