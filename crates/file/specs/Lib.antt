-- What the contracts cite, from a frame up.
pub mod Frame
pub mod Walk
pub mod Whole
pub mod Streaming
pub mod Parts
