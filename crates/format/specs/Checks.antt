-- The checks of a frame, with their order, for every call that meets one. Assumes nothing.
use Rattle.std.specs.Prelude.{ℕ, Bool, true, false, not, List, [], ◌∷◌, ◌++◌, eqb}
use Rattle.refusal.specs.Rules.{Rule, ◌gives◌}
use Rattle.format.specs.Format.{state_end}
use Rattle.format.specs.Header.{header_rules}
use Rattle.format.specs.Part.{cut_rules}
use Rattle.format.specs.declared.frame.FrameHeader.{FrameHeader}
use Rattle.format.specs.declared.checks.Kind.{Kind}
use Rattle.format.specs.declared.checks.Kind.TheVariants.{Any, Like}

-- other channels or another rate than the first frame's
abbrev pub same_rules : ℕ → ℕ → FrameHeader → List Rule
same_rules c r h = (not (eqb h.channels c) gives 4) ∷ (not (eqb h.rate r) gives 4) ∷ []

-- in fixed mode 4 comes before the predictor state is read; in streaming mode after, so a cut state gives 5
abbrev pub state_rules : Bool → ℕ → ℕ → List Rule
state_rules true c left = []
state_rules false c left = cut_rules (state_end c) left

-- any frame, or one like the first
abbrev pub kind_rules : Kind → FrameHeader → ℕ → List Rule
kind_rules Any h left = []
kind_rules (Like f) h left = state_rules f.fixed h.channels left ++ same_rules f.channels f.rate h

-- a frame of a kind with the header h, of which the call takes `need` bytes and so many are left: 3 and 6, then the kind's, then 5 where it is cut
unfoldable pub frame_rules : Kind → FrameHeader → ℕ → ℕ → List Rule
frame_rules kind h need left = header_rules h ++ (kind_rules kind h left ++ cut_rules need left)
