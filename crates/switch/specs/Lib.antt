pub mod Faults
pub mod Totals
