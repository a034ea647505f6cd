pub mod Piles
pub mod Statements
pub mod Texts
