pub mod PartLaws
pub mod RowLaws
