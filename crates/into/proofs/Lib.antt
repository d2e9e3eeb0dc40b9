-- Laws for the crates above.
pub mod Counts
pub mod Ranges
pub mod Sound
pub mod Coming
pub mod Taken
pub mod Onward
pub mod IntoLaws
pub mod Settled
