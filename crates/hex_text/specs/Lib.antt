pub mod Digits
pub mod Stages
pub mod Text
pub mod Capitals
pub mod Faults
