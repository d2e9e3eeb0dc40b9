-- What the proofs of this crate and of those above it cite.
pub mod Alls
pub mod Bounds
pub mod Views
pub mod GoodStates
pub mod Openings
pub mod OpenedStates
pub mod KnownFacts
pub mod Settled
