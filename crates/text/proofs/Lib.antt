pub mod Answered
pub mod Appends
pub mod Both
pub mod Decimal
pub mod Ports
