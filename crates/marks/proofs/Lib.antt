pub mod FoldLaws
pub mod MarkedLaws
pub mod TrialLaws
pub mod TryLaws
pub mod SearchLaws
