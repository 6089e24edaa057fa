pub mod Sides
pub mod Places
pub mod Steps
