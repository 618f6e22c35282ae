pub mod Steps
pub mod Fields
pub mod Optional
pub mod Sound
pub mod Complete
pub mod Agree
pub mod Types
pub mod Limits
