pub mod Refusals
pub mod Content
pub mod Meaning
pub mod Layout
pub mod Fields
pub mod Types
