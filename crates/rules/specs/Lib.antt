pub mod Comparisons
pub mod Lawful
pub mod Claims
pub mod WorkedPlans
pub mod OrderRules
