pub mod Bytes
pub mod Fields
pub mod Refusals
pub mod Keys
pub mod Parts
pub mod Padding
pub mod Inside
