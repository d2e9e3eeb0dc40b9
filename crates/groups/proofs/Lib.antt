-- Laws for the crates above.
pub mod Runs
pub mod GroupLaws
pub mod Growth
pub mod Fits
pub mod Parts
