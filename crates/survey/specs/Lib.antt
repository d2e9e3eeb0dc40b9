-- What the contracts cite: the calls' first, then those of their parts.
pub mod Parts
