pub mod Intake
pub mod Sweeping
