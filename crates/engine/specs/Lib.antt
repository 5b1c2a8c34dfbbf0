pub mod Checks
pub mod Passing
pub mod Tracking
pub mod Querying
pub mod Rows
pub mod Histories
pub mod Promises
