-- Laws of the definitions: the decisions and their run, then the program and whole-file decoding.
pub mod Deciding
pub mod Stepping
pub mod Terms
pub mod Frames
pub mod Walking
pub mod Ran
pub mod Turns
pub mod Files
pub mod Inputs
pub mod Heard
