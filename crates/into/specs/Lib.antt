-- What the contracts cite.
pub mod Left
pub mod Into
