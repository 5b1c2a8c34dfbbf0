pub mod Algebras
pub mod Chains
