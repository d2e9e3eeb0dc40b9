-- `oneshot::encode_frames` meets its contract. The invariant: the state is the one before the next frame, no frame before it was refused,
-- and `out` has the file header and those frames. Assumes nothing.
use mathlib.Core.Path.{◌≡◌}
use mathlib.Core.Option.{none}
use Prim.Native.Nat.{◌*◌, ◌≤◌}
use lib.ListN.{length}
use Rattle.format.specs.Format.{frame_len}
use Rattle.encoder.specs.Encoder.{encoder_view}
use Rattle.oneshot.specs.OneShot.{state_before, bytes_before, frames_of, stop_in}
use Rattle.refusal.specs.Rules.{good}
use Rattle.refusal.specs.Lent.{laid_over}
use Rattle.oneshot.proofs.Turns.{AtTurn}
use Rattle.oneshot.proofs.encode_frames.Given as goal

abbrev pub invariant-loop-f : goal.invariant-loop-f
invariant-loop-f l =
    let v = encoder_view l.e in
    let n = length l.yielded in
    record {
      few : n ≤ frames_of v;
      turn : AtTurn (frame_len * l.e.channels) l.samples n l.f-iterator;
      state : encoder_view l.state ≡ state_before v l.samples n;
      narrow : stop_in v l.samples n ≡ none;
      bytes : l.out ≡ laid_over l.initial.out 0 (good (bytes_before v l.samples n));
    }
