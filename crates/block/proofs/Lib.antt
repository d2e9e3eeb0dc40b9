-- Laws that the proofs share.
pub mod Layouts
pub mod Holding
pub mod Readable
pub mod Fields
pub mod Back
