pub mod Slices
pub mod Stacks
pub mod Records
