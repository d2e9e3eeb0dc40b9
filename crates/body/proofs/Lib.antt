-- Laws for the crates above.
pub mod Laids
pub mod Channels
