pub mod Networks
pub mod Equations
pub mod Moves
pub mod Series
pub mod Theorems
