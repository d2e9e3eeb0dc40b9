-- What the encoder tells is small enough for a code. Assumes nothing.
use Prim.Native.Nat.{ℕ, ◌<◌, ◌^◌}
use mathlib.Core.List.{List}
use lib.IntN.{ℤ}
use Rattle.refusal.proofs.Rules.{none_fires, quiet, quiet_parts}
use Rattle.encoder.specs.Encoder.{create_rules, new_view}
use Rattle.oneshot.specs.OneShot.{shot_rules}
use Rattle.oneshot.specs.Parts.{Small}
use Rattle.oneshot.specs.Shots.{all_rules, shot_told}
use Rattle.oneshot.proofs.Ends.{shot_fits}
use Rattle.oneshot.proofs.Small.{told_small}

pub encoded_small : (c rate total : ℕ) (samples : List ℤ) (room : ℕ) → total < 2 ^ 32 → Small (shot_told (all_rules c rate total samples room) (new_view c rate total) samples)
unfolding new_view
encoded_small c rate total samples room l =
    told_small (all_rules c rate total samples room) (new_view c rate total) samples room l
    (λ e. shot_fits (new_view c rate total) samples room (none_fires (shot_rules (new_view c rate total) samples room)
    (quiet_parts (create_rules c rate total) (shot_rules (new_view c rate total) samples room) (quiet (all_rules c rate total samples room) e)).1))
