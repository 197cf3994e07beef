pub mod Pieces
pub mod Standing
pub mod Worked
