pub mod Falling
pub mod Tables
pub mod Products
