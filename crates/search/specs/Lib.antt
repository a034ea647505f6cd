pub mod Best
pub mod Buckets
pub mod Sums
pub mod Searches
