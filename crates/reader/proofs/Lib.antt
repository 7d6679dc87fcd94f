pub mod Actives
pub mod Pushing
pub mod FieldRuns
