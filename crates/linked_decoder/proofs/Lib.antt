-- Laws that the proofs share, and that each call has one answer.
pub mod Linking
pub mod Settled
