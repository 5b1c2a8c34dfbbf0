pub mod Everies
pub mod Plannings
pub mod Turns
