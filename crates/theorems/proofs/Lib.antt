-- The theorems are in Answer, and in Settled one for each public call; what those of Answer rest on stands above it, from a channel up.
pub mod Channels
pub mod Predictors
pub mod Blocks
pub mod Frames
pub mod Files
pub mod Taking
pub mod OneShots
pub mod Outputs
pub mod Answer
pub mod Settled
pub mod Examples
