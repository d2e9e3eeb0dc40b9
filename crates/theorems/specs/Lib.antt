-- What the theorems cite.
pub mod Claims
pub mod Finished
pub mod Left
