pub mod Drained
pub mod Heaps
pub mod Keys
pub mod Order
pub mod Ranking
