pub mod DraftTexts
pub mod Drafts
pub mod Fields
pub mod Forms
pub mod Parts
pub mod Ports
pub mod Rows
pub mod Values
