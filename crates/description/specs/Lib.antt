pub mod Descriptions
pub mod Limits
pub mod PlanFields
pub mod Forms
pub mod Reader
pub mod Written
