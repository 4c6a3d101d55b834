pub mod PassedPlan
