-- Laws for the crates above.
pub mod FrameLaws
pub mod Settled
