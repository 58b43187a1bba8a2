pub mod Slots
pub mod Cabinets
