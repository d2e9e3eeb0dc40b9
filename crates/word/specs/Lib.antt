-- What the contracts cite.
pub mod Below
pub mod Table
pub mod Bytes
pub mod Little
pub mod Word
pub mod Parts
