-- Laws for the crates above.
pub mod Handing
pub mod Settled
