-- What the contracts cite.
pub mod Codes
