-- Laws for the crates above.
pub mod Surveying
pub mod Decoding
pub mod Calls
