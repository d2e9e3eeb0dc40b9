-- What the contracts cite.
pub mod Channel
pub mod Groups
pub mod Parts
