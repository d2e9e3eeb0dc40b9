-- Laws for the functions of this crate and for the crates above.
pub mod Lists
pub mod Fitting
pub mod Sorting
pub mod Keys
pub mod Bounds
pub mod Steps
pub mod Searching
pub mod Runs
pub mod Outcomes
pub mod Chosen
pub mod Slices
pub mod Heard
