-- What the contracts cite.
pub mod Numbers
pub mod Linked
