pub mod Reading
pub mod Finding
pub mod Evicting
