-- What the parts of the code ask and answer. Assumes nothing.
use Rattle.std.specs.Prelude.{ℕ, ◌+◌, ◌-◌, ◌*◌, ◌^◌, List, ℤ}
use mathlib.Core.Option.{Option, none, some}
use Rattle.std.specs.Int.{w16}
use mir.Val.{to_z}
use Rattle.word.specs.Table.{table}
use Rattle.word.specs.Parts.{put}
use Rattle.word.specs.Word.{field}
use Rattle.lms.specs.declared.QoaLms.{QoaLms}
use Rattle.format.specs.FileHeader.{magic, file_rules, total_of}
use Rattle.format.specs.Predictor.{four_word}
use Rattle.format.specs.declared.frame.FrameHeader.{FrameHeader}
use Rattle.refusal.specs.Rules.{Answer, after, good}

-- the 64-bit word of a file header
unfoldable pub file_word : ℕ → ℕ
file_word total = magic * 2 ^ 32 + total

-- the same fields of a 64-bit word
unfoldable pub header_fields : ℕ → FrameHeader
header_fields w = record { channels = field 8 56 w; rate = field 24 32 w; samples = field 16 16 w; size = field 16 0 w }

-- the four signed 16-bit numbers of a 64-bit word, the first topmost
unfoldable pub four_of : ℕ → List ℤ
four_of w = table 4 (λ i. to_z w16 (field 16 (48 - 16 * i) w))

-- `out` with the state stored at a place
unfoldable pub put_lms : List ℕ → ℕ → QoaLms → List ℕ
put_lms out p lms = put 8 (put 8 out p (four_word lms.history)) (p + 8) (four_word lms.weights)

-- the first of two refusals
abbrev pub sooner : Option ℕ → Option ℕ → Option ℕ
sooner none b = b
sooner (some n) b = some n

-- the total, or the refusal
unfoldable pub file_header : List ℕ → Answer ℕ
file_header bs = after (file_rules bs) (good (total_of bs))
