-- What the contracts cite.
pub mod Frames
pub mod Parts
