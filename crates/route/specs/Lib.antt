pub mod Ends
pub mod Ways
pub mod Stored
pub mod Queues
pub mod Runs
pub mod Laws
pub mod Passing
