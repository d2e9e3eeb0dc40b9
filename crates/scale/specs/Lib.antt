-- What the contracts cite.
pub mod Tables
pub mod Division
pub mod Parts
