pub mod PlanS
pub mod Table
