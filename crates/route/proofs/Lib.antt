pub mod Calls
pub mod Slots
pub mod Orders
pub mod Laws
pub mod Through
