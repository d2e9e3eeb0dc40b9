-- A decoder in a whole frame, after some of the frame's samples. Assumes nothing.
use Rattle.std.specs.Prelude.{ℕ, ◌+◌, ◌≤◌, ◌<◌, ◌≡◌, true, List, pos, get_or, length}
use Rattle.format.specs.Format.{slices_of}
use Rattle.file.specs.Frame.{frame_samples}
use Rattle.state.specs.View.{View, total, view}
use Rattle.state.specs.States.{good_state}
use Rattle.into.specs.Into.{coming_at, groups_end}
use Rattle.frame_samples.specs.declared.InFrame.{InFrame}

-- a decoder that passes the state rules, for which the frame has all that remains, and to which the samples after the first `done` are still to come
pub record StandsAt (f : List ℕ) (done : ℕ) (v : View) : Type 0 where
  pub passes : good_state v (length f) ≡ true
  pub whole : groups_end v (slices_of v.remaining) ≤ length f
  pub left : done + total v ≡ length (frame_samples f)
  pub coming : (i : ℕ) → i < total v → coming_at f v i ≡ get_or (frame_samples f) (done + i) (pos 0)

-- the decoder of a place is there
abbrev pub After : List ℕ → InFrame → Type 0
After f p = StandsAt f p.done (view p.decoder)
