-- What the proofs cite.
pub mod BitsLaws
pub mod HexLaws
pub mod ListLaws
pub mod OutputLaws
