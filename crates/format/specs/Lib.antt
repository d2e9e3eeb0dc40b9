-- What the contracts cite, in FORMAT.md's order.
pub mod Format
pub mod FileHeader
pub mod Header
pub mod Predictor
pub mod Part
pub mod Checks
pub mod Facts
pub mod Grammar
pub mod Parts
