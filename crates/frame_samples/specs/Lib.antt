-- What the contracts cite.
pub mod Places
pub mod Blocks
