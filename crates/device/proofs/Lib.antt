pub mod Outcomes
pub mod OneBlock
pub mod Told
pub mod Below
