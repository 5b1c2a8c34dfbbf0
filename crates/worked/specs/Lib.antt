pub mod Drawing
pub mod Around
pub mod Examples
