pub mod Faults
pub mod Levels
pub mod Sheets
pub mod Sides
pub mod Refusals
