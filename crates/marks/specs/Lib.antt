pub mod Marked
pub mod Trials
pub mod Tries
pub mod Searches
