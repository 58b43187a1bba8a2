pub mod LineLaws
pub mod ContentsLaws
pub mod PlanLaws
pub mod WriteLaws
pub mod WiringLaws
