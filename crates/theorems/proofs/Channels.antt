-- A channel, read back: the reader hears the writer's reconstruction, since only the last slice may be short. Assumes nothing.
use Prim.Native.Nat.{ℕ, zero, suc, ◌*◌, ◌/◌, ◌%◌, ◌≤◌, ◌<◌}
use mathlib.Core.Path.{◌≡◌, refl, ◌∙◌}
use mathlib.Core.List.{List}
use native.Mathlib.Omega.{arith}
use lib.IntN.{ℤ}
use lib.ListN.{length}
use Rattle.lms.specs.declared.QoaLms.{QoaLms}
use Rattle.search.proofs.Heard.{heard_full, heard_sample}
use Rattle.groups.specs.Channel.{channel_at, run_after}
use Rattle.body.specs.Channel.{lms_before, slice_part, slice_word, sum_at}
use Rattle.body.proofs.Channels.{before_next, length_part}

module _ (s : QoaLms) (xs : List ℤ) where
  -- before a slice, after full ones, both have the same predictor
  run_heard : (g : ℕ) → 20 * g ≤ length xs → run_after (slice_word s xs) s g ≡ lms_before s xs g
  unfolding run_after lms_before slice_word
  run_heard zero h = refl
  run_heard (suc g) h =
      let full : length (slice_part xs g) ≡ 20 = omega (arith, length_part xs g) in
      rw (run_heard g (omega arith)) (heard_full (lms_before s xs g) (slice_part xs g) (omega arith) (omega arith) full ∙ before_next s xs g (omega arith))

  pub channel_heard : (k : ℕ) → k < length xs → channel_at (slice_word s xs) s k ≡ sum_at s xs k
  unfolding channel_at sum_at slice_word
  channel_heard k h =
      let g = k / 20 in
      let long = length_part xs g in
      rw (run_heard g (omega arith)) (heard_sample (lms_before s xs g) (slice_part xs g) (omega arith) (omega arith) (k % 20) (omega arith))
