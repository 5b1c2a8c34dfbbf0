pub mod Shifts
pub mod Somewhere
pub mod Stars
pub mod Turns
