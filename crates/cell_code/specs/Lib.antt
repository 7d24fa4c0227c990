pub mod Forms
pub mod Count
