-- What the contracts cite.
pub mod Linked
