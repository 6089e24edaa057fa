pub mod Faulty
pub mod Texts
