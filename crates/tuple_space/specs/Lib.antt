pub mod Tuples
pub mod Visits
pub mod Indexes
pub mod Changes
pub mod Arrivals
