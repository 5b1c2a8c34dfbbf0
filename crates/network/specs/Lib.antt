pub mod States
pub mod Drafts
pub mod Plans
pub mod Seals
