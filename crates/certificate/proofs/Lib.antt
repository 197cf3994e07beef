pub mod Counting
pub mod Sameness
pub mod Passing
pub mod Certifying
