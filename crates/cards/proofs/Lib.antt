pub mod GridLaws
pub mod PortLaws
