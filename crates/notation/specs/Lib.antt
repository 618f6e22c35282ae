pub mod Lines
pub mod Description
