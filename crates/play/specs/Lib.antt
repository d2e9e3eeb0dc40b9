-- What the contracts cite: what the program is to do, its decisions one by one, and its run, which calls them in turn.
pub mod Played
pub mod Decisions
pub mod Running
pub mod Parts
