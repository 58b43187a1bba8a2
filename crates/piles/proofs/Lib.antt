pub mod PlaceLaws
pub mod SlotLaws
pub mod CabinetLaws
