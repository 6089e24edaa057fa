pub mod Repeats
pub mod Printed
