-- What the contracts cite.
pub mod Items
pub mod Parts
