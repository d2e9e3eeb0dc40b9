-- What the theorems say of a file: it is accepted, it has a cut, there is room. Assumes nothing.
use Rattle.std.specs.Prelude.{ℕ, ◌≤◌, ◌≡◌, List, [], ◌∷◌}
use Rattle.refusal.specs.Rules.{good}
use Rattle.format.specs.Grammar.{Cut, IsCut}
use Rattle.file.specs.Whole.{Audio, decode}
use Rattle.file.specs.Walk.{counts_of}

-- whole-file decoding accepts it, in so much room
abbrev pub Accepts : ℕ → List ℕ → Type 0
Accepts room bytes = (a : Audio) × (decode room bytes ≡ good a)

-- the grammar has a cut of it
abbrev pub HasCut : List ℕ → Type 0
HasCut bytes = (k : Cut) × IsCut k bytes

-- one that has no tail
abbrev pub HasCutWithoutTail : List ℕ → Type 0
HasCutWithoutTail bytes = (k : Cut) × IsCut k bytes × (k.tail ≡ [])

-- room for the samples of a cut: n for each channel of each of its frames
abbrev pub RoomFor : ℕ → List ℕ → Type 0
RoomFor room bytes = (k : Cut) → IsCut k bytes → counts_of (k.first ∷ k.others) ≤ room
