pub mod BitLaws
pub mod MaskLaws
pub mod OverlapLaws
pub mod Places
pub mod OutsideLaws
pub mod WholeLaws
pub mod Firsts
