pub mod Actives
pub mod FieldsRead
pub mod FieldsWritten
pub mod Growing
pub mod ReadsOn
pub mod Accepted
pub mod Completes
pub mod Exactness
