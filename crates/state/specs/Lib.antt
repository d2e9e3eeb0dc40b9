-- What the contracts cite.
pub mod View
pub mod States
pub mod Opening
pub mod Facts
