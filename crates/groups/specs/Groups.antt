-- Slice groups, each one slice of every channel in turn, that start at the place p of the bytes. Assumes nothing.
use Rattle.std.specs.Prelude.{ℕ, ◌+◌, ◌*◌, ◌/◌, ◌%◌, List, ℤ}
use Rattle.word.specs.Bytes.{be64}
use Rattle.lms.specs.declared.QoaLms.{QoaLms}
use Rattle.format.specs.Predictor.{lms_of}
use Rattle.groups.specs.Channel.{channel_at}

-- the word of slice g of channel j, of c channels
abbrev pub word_at : List ℕ → ℕ → ℕ → ℕ → ℕ → ℕ
word_at bs p c j g = be64 bs (p + 8 * (g * c + j))

-- the k-th sample of the groups, interleaved: sample k / c of channel k % c
unfoldable pub groups_at : List ℕ → ℕ → ℕ → List QoaLms → ℕ → ℤ
groups_at bs p c states k = channel_at (word_at bs p c (k % c)) (lms_of states (k % c)) (k / c)
