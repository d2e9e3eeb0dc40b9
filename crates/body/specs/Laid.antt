-- Bytes laid one after another. Assumes nothing.
use Rattle.std.specs.Prelude.{ℕ, zero, suc, List, [], ◌++◌}
use Rattle.word.specs.Bytes.{bytes_of}
use Rattle.lms.specs.declared.QoaLms.{QoaLms}
use Rattle.format.specs.Predictor.{four_word}

-- f 0, f 1, .. below n, one after another
unfoldable pub laid : ℕ → (ℕ → List ℕ) → List ℕ
laid zero f = []
laid (suc n) f = laid n f ++ f n

-- four history and four weight numbers
abbrev pub lms_bytes : QoaLms → List ℕ
lms_bytes lms = bytes_of 8 (four_word lms.history) ++ bytes_of 8 (four_word lms.weights)
