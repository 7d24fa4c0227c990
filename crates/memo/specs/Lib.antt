pub mod Keys
pub mod Seeking
pub mod Keeping
pub mod Forgetting
