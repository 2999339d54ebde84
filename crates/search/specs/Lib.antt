pub mod Machine
pub mod Solution
pub mod Round
pub mod Demand
pub mod Result
pub mod Lawful
