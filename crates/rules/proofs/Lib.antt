pub mod WorkedPlans
