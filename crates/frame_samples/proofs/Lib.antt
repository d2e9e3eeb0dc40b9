-- Laws for the crates above.
pub mod Entering
pub mod Going
pub mod Joined
pub mod Settled
