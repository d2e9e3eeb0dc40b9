-- What the contracts cite.
pub mod OneShot
pub mod Shots
pub mod Parts
