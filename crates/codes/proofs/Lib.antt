-- Laws that the proofs share.
pub mod Numbers
pub mod Apart
pub mod Maps
