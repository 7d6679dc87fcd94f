pub mod Division
pub mod Divisors
pub mod Entries
pub mod Factors
pub mod Laws
pub mod Meetings
pub mod Occurrences
