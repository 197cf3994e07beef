pub mod Refilled
pub mod Listing
pub mod Stacked
pub mod Sides
pub mod Lent
