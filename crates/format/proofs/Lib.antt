-- What the proofs of this crate and of those above it cite.
pub mod Headers
pub mod FileHeaders
pub mod Parts
pub mod Checking
pub mod Tails
pub mod Lasting
