-- Laws for the crates above.
pub mod Wides
pub mod GoodEncoders
pub mod Heads
pub mod Frames
pub mod Done
pub mod Settled
pub mod ByteLists
