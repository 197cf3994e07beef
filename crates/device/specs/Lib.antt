pub mod Store
pub mod Refusals
pub mod Answers
pub mod Loans
pub mod Bytes
pub mod Whole
pub mod Below
