-- The file header: `qoaf`, then a 32-bit total of samples per channel. Assumes nothing.
use Rattle.std.specs.Prelude.{ℕ, Bool, not, List, [], ◌∷◌, eqb, ltb, length}
use Rattle.word.specs.Bytes.{be32}
use Rattle.refusal.specs.Rules.{Rule, ◌gives◌}

-- `qoaf`
abbrev pub magic : ℕ
magic = 0x716f6166

abbrev pub total_of : List ℕ → ℕ
total_of bs = be32 bs 4

-- a total of 0 means streaming, any other total means fixed
abbrev pub is_fixed : ℕ → Bool
is_fixed total = not (eqb total 0)

-- under four bytes is 5; a wrong magic is 1; a cut total is 5
unfoldable pub file_rules : List ℕ → List Rule
file_rules bs =
    (ltb (length bs) 4 gives 5)
    ∷ (not (eqb (be32 bs 0) magic) gives 1)
    ∷ (ltb (length bs) 8 gives 5)
    ∷ []
