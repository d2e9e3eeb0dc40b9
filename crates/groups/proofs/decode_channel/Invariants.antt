-- `groups::decode_channel` meets its contract. The loop's invariant: the first `g` slices have run, in the predictor and in `out`,
-- where the last slice may be short. The measure is what is left of the slices. Assumes nothing.
use mathlib.Core.Path.{◌≡◌}
use Prim.Native.Nat.{◌+◌, ◌*◌, ◌-◌, ◌≤◌, min}
use Rattle.word.specs.Bytes.{be64}
use Rattle.word.specs.Parts.{written}
use Rattle.groups.specs.Channel.{channel_at, run_after}
use Rattle.groups.proofs.decode_channel.Given as goal

abbrev pub invariant-loop-g : goal.invariant-loop-g
invariant-loop-g l =
    (l.g ≤ l.slices)
    × (l.state ≡ run_after (λ i. be64 l.bytes (l.at + 8 * (i * l.channels))) l.initial.state l.g)
    × (l.out ≡ written (channel_at (λ i. be64 l.bytes (l.at + 8 * (i * l.channels))) l.initial.state) l.initial.out l.start l.channels (min (20 * l.g) l.samples))

abbrev pub decreases-loop-g : goal.decreases-loop-g
decreases-loop-g l = l.slices - l.g
