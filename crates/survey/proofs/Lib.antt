-- Laws for the crates above.
pub mod Walking
pub mod FrameKinds
