pub mod Bits
pub mod BitsLemmas
