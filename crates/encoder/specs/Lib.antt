-- What the contracts cite.
pub mod Encoder
pub mod Frame
pub mod Head
pub mod Calls
pub mod Parts
