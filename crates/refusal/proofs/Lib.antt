-- Laws for the crates above.
pub mod Rules
pub mod Told
pub mod Lents
