-- What the contracts cite.
pub mod Rules
pub mod Refusals
pub mod Lent
