pub mod Computed
pub mod Drawings
pub mod Equations
pub mod Asked
