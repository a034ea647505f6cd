pub mod ScanLaws
pub mod PlaceLaws
