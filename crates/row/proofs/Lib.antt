pub mod Shelving
pub mod Mapped
pub mod Entering
pub mod Laws
pub mod Walking
pub mod Placing
