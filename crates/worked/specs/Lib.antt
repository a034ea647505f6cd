pub mod Frames
pub mod Reading
pub mod Finding
pub mod Evicting
pub mod Examples
