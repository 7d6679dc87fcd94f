pub mod Beside
pub mod Laws
pub mod Parts
pub mod Relations
pub mod Smallest
pub mod BesideLaws
pub mod PartLaws
