pub mod Calls
pub mod Changes
pub mod Questions
pub mod Records
pub mod Series
pub mod Texts
