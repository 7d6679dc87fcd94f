pub mod Core
pub mod Figures
pub mod Link
pub mod CoreLaws
pub mod LinkLaws
