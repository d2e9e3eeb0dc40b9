-- Laws for the crates above.
pub mod Turns
pub mod Files
pub mod Ends
pub mod Settled
pub mod Run
pub mod Small
