pub mod Bits
pub mod Components
pub mod Drawn
pub mod Orders
pub mod Running
pub mod Tables
pub mod Eliminating
