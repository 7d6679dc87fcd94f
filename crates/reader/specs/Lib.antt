pub mod Answered
pub mod Known
pub mod Described
pub mod Grown
pub mod Taken
