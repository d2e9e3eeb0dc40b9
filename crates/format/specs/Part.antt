-- The frame part: the bytes that are exactly one whole good frame. Assumes nothing.
use Rattle.std.specs.Prelude.{ℕ, List, [], ◌∷◌, ltb, take, drop}
use Rattle.refusal.specs.Rules.{Answer, good, refused, Rule, ◌gives◌, after, ◌then◌}
use Rattle.format.specs.Format.{frame_length}
use Rattle.format.specs.Header.{good_header, left_at}
use Rattle.format.specs.declared.frame.FrameHeader.{FrameHeader}

-- something of so many bytes, of which fewer are left, is cut
abbrev pub cut_rules : ℕ → ℕ → List Rule
cut_rules whole left = (ltb left whole gives 5) ∷ []

-- a frame's length, by its header
abbrev pub length_of : FrameHeader → ℕ
length_of h = frame_length h.channels h.samples

-- 5 for fewer than 8 bytes or a place past the end, then 3, then 6, then 5 for a cut frame; else the frame's length
unfoldable pub part_length : List ℕ → ℕ → Answer ℕ
part_length bs p = good_header bs p then λ h. after (cut_rules (length_of h) (left_at bs p)) (good (length_of h))

-- the bytes themselves, none on a refusal
abbrev pub part_of : Answer ℕ → List ℕ → ℕ → List ℕ
part_of (refused n) bs p = []
part_of (good n) bs p = take n (drop p bs)
