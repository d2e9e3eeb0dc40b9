-- Laws for the crates above.
pub mod Frames
pub mod Walks
pub mod Accepted
pub mod Decoded
pub mod Tails
pub mod Streamed
pub mod Refusals
pub mod Needs
pub mod Examples
pub mod Places
