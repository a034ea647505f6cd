pub mod Digits
pub mod Marks
pub mod IndexLaws
pub mod BestLaws
pub mod SearchLaws
pub mod SumLaws
pub mod RowLaws
pub mod PlaceLaws
