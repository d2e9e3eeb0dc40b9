-- The header of a frame, and its checks in order. Assumes nothing.
use Rattle.std.specs.Prelude.{ℕ, ◌+◌, ◌*◌, ◌-◌, ◌/◌, ◌%◌, ◌^◌, not, List, [], ◌∷◌, eqb, leb, ltb, length}
use Rattle.word.specs.Bytes.{be8, be16, be24}
use Rattle.refusal.specs.Rules.{Answer, good, Rule, ◌gives◌, after}
use Rattle.format.specs.Format.{max_channels, slices_per_frame, state_end}
use Rattle.format.specs.declared.frame.FrameHeader.{FrameHeader}

-- channels c (8 bits), rate (24), samples per channel n (16), size (16)
unfoldable pub header_at : List ℕ → ℕ → FrameHeader
header_at bs p = record { channels = be8 bs p; rate = be24 bs (p + 1); samples = be16 bs (p + 4); size = be16 bs (p + 6) }

-- the 64-bit word of those fields
unfoldable pub header_word : FrameHeader → ℕ
header_word h = h.channels * 2 ^ 56 + (h.rate * 2 ^ 32 + (h.samples * 2 ^ 16 + h.size))

-- k = floor((size-8-16c)/8), the slices for which the size field has room
unfoldable pub size_slices : FrameHeader → ℕ
size_slices h = (h.size - state_end h.channels) / 8

-- c or rate 0 is 3; size at most 8+16c is 3; k not a multiple of c is 3; k/c over 256 is 3; c over the limit is 6
unfoldable pub header_rules : FrameHeader → List Rule
header_rules h =
    (eqb h.channels 0 gives 3)
    ∷ (eqb h.rate 0 gives 3)
    ∷ (leb h.size (state_end h.channels) gives 3)
    ∷ (not (eqb (size_slices h % h.channels) 0) gives 3)
    ∷ (ltb slices_per_frame (size_slices h / h.channels) gives 3)
    ∷ (ltb max_channels h.channels gives 6)
    ∷ []

-- ---- a header at a place

-- how many bytes there are from a place on: none at a place past the end
abbrev pub left_at : List ℕ → ℕ → ℕ
left_at bs p = length bs - p

-- fewer than 8 bytes or a place past the end is 5
abbrev pub short_rules : ℕ → List Rule
short_rules left = (ltb left 8 gives 5) ∷ []

-- the header, or the refusal
unfoldable pub good_header : List ℕ → ℕ → Answer FrameHeader
good_header bs p = after (short_rules (left_at bs p)) (after (header_rules (header_at bs p)) (good (header_at bs p)))
