-- What only proofs cite. Assumes nothing.
use Rattle.std.specs.Prelude.{ℕ, ◌≡◌, List, length}
use Rattle.format.specs.Header.{header_at}
use Rattle.format.specs.Part.{length_of}
use Rattle.format.specs.Grammar.{Passes}

-- exactly the bytes of a frame, of any channels and rate
pub record IsFree (f : List ℕ) : Type 0 where
  pub passes : Passes (header_at f 0)
  pub whole : length f ≡ length_of (header_at f 0)
