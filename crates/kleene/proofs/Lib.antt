pub mod Everywhere
pub mod Chains
pub mod Parts
