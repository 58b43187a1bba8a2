pub mod Ups
pub mod Escapes
pub mod Dependencies
pub mod Marking
pub mod Trees
