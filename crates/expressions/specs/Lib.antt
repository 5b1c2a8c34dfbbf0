pub mod Kinds
pub mod Layout
pub mod Contents
pub mod Stores
pub mod Making
pub mod Meanings
pub mod Laws
