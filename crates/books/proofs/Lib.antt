pub mod Heads
pub mod Extremes
pub mod WindowScans
pub mod TideTurns
