pub mod Decks
pub mod Views
pub mod Makings
pub mod Porting
pub mod Errors
