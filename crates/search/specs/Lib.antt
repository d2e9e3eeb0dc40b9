-- What the contracts cite.
pub mod Candidate
pub mod Search
pub mod Reconstruction
pub mod Parts
