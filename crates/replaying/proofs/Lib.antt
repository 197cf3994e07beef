pub mod Lines
pub mod Every
pub mod Stacked
pub mod Listing
pub mod Halves
pub mod Tallied
pub mod Kept
