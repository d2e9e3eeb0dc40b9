-- Laws for the crates above.
pub mod Push
pub mod Belows
pub mod Tables
pub mod Writes
pub mod BytesLaws
pub mod LittleLaws
pub mod Fields
pub mod Words
pub mod Tests
