-- Laws for the crates above.
pub mod ItemLaws
pub mod GoodAfter
pub mod Settled
