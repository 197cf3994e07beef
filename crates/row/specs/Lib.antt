pub mod Frames
pub mod Shelves
pub mod Orders
pub mod Entries
pub mod Refusals
pub mod Held
pub mod Rows
