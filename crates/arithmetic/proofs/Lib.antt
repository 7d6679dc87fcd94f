pub mod Divisions
pub mod Divisors
pub mod Factors
pub mod Meetings
pub mod Windows
pub mod Tests
pub mod Pairs
