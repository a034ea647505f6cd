pub mod Hex
pub mod HexFaults
pub mod Numbers
pub mod WidthLaws
pub mod Widths
pub mod Written
