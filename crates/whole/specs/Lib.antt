-- What the contracts cite: the public calls' first, then those of their parts.
pub mod Told
pub mod Parts
