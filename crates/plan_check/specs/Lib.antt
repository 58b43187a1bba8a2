pub mod Cycles
pub mod Rules
pub mod Routes
pub mod Packets
pub mod Verdicts
pub mod Marks
