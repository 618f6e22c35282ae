mod Runs
mod Writing
pub mod Shown
