-- Laws for the crates above.
pub mod Growth
pub mod Fits
pub mod Checked
mod Codes
mod Steps
