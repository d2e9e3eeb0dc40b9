-- What the contracts cite.
pub mod Predictors
pub mod DecoderBlock
pub mod EncoderBlock
pub mod Parts
