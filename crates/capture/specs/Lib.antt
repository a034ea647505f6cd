pub mod Captures
pub mod Records
pub mod Steps
