-- `groups::decode_groups` meets its contract. The loop's invariant: the first `j` channels have run, in the predictors and in `out`.
-- The measure is what is left of the channels. Assumes nothing.
use mathlib.Core.Path.{◌≡◌}
use Prim.Native.Nat.{◌-◌, ◌≤◌}
use Rattle.format.specs.Format.{slices_of}
use Rattle.format.specs.Predictor.{lms_of}
use Rattle.groups.specs.Channel.{channel_at, run_after}
use Rattle.groups.specs.Groups.{word_at}
use Rattle.word.specs.Parts.{interleaved, written}
use Rattle.groups.proofs.decode_groups.Given as goal

abbrev pub invariant-loop-j : goal.invariant-loop-j
invariant-loop-j l =
    (l.j ≤ l.channels)
    × (l.next ≡ written (λ k. run_after (word_at l.bytes l.at l.channels k) (lms_of l.initial.next k) (slices_of l.samples)) l.initial.next 0 1 l.j)
    × (l.out ≡ interleaved (λ k. channel_at (word_at l.bytes l.at l.channels k) (lms_of l.initial.next k)) l.initial.out l.start l.channels l.samples l.j)

abbrev pub decreases-loop-j : goal.decreases-loop-j
decreases-loop-j l = l.channels - l.j
