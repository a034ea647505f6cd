pub mod Faults
pub mod Frames
pub mod Kinds
pub mod Layout
pub mod Readings
pub mod Laws
