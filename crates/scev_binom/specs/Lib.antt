pub mod Binomial
pub mod Division
