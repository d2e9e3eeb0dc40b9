-- What the contracts cite.
pub mod Slice
pub mod Parts
