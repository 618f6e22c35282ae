pub mod Rooms
pub mod Sound
