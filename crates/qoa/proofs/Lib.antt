-- Laws of the C interface.
pub mod Codes
pub mod Fitting
pub mod Opened
pub mod Encoding
pub mod Refusing
pub mod Naming
pub mod Seconds
