pub mod Laws
pub mod Reaches
pub mod Texts
pub mod Rows
pub mod Walks
pub mod Filled
pub mod WayBack
pub mod Tolls
