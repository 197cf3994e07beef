pub mod Defects
pub mod Masked
pub mod Stripes
pub mod Striped
pub mod Restores
pub mod Copies
