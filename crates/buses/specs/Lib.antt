pub mod Bus
pub mod Slots
pub mod BusLaws
