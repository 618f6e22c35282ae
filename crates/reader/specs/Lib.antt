pub mod Window
pub mod Reading
