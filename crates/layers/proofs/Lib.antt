pub mod Members
pub mod Homes
pub mod Copied
