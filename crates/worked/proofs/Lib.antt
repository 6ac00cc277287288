pub mod ClaimsLaws
pub mod PlanTestLaws
pub mod Worked
