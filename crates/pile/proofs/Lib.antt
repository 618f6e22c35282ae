pub mod Sums
pub mod Loops
pub mod Changes
pub mod Means
pub mod Freed
