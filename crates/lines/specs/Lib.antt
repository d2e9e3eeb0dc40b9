-- What the contracts cite.
pub mod Bits
pub mod Find
pub mod Hex
pub mod Lists
pub mod Output
pub mod Parts
