-- The file header: its bytes and its refusals. Assumes nothing.
use Rattle.std.specs.Prelude.{ℕ, not, List, [], ◌∷◌, ◌++◌, ltb}
use Rattle.word.specs.Bytes.{bytes_of}
use Rattle.refusal.specs.Rules.{Rule, ◌gives◌}
use Rattle.format.specs.FileHeader.{magic}
use Rattle.encoder.specs.Encoder.{EncoderView, good_encoder}

-- `qoaf` and the total
unfoldable pub head_bytes : ℕ → List ℕ
head_bytes total = bytes_of 4 magic ++ bytes_of 4 total

-- 8; 7
unfoldable pub head_rules : EncoderView → ℕ → List Rule
head_rules v room =
    (not (good_encoder v) gives 8)
    ∷ (ltb room 8 gives 7)
    ∷ []
