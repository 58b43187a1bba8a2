pub mod Letters
pub mod Lines
pub mod Contents
pub mod Plans
pub mod Written
pub mod Wirings
pub mod Readers
