pub mod Bounded
pub mod Costs
pub mod PlanAnswers
pub mod PlanFile
pub mod PlanText
pub mod Working
