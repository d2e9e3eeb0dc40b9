-- What is decoded stays in 16 bits: every sample, and every history number of a predictor. Assumes nothing.
use mathlib.Core.List.{List}
use Prim.Native.Nat.{ℕ, zero, suc, ◌<◌, ◌/◌, ◌%◌}
use lib.Dec.{lit<}
use mir.Syntax.{w16}
use mir.Val.{SFits}
use Rattle.lms.specs.Parts.{HistoryFits}
use Rattle.lms.specs.declared.QoaLms.{QoaLms}
use Rattle.format.specs.Predictor.{lms_of}
use Rattle.slice.proofs.Fits.{sample_at_fits, state_fits}
use Rattle.groups.specs.Channel.{channel_at, run_after}
use Rattle.groups.specs.Groups.{groups_at, word_at}
use Rattle.groups.proofs.GroupLaws.{groups_each}
use Rattle.groups.specs.Parts.{groups_states}

-- ---- histories

pub run_fits : (words : ℕ → ℕ) {s : QoaLms} → HistoryFits s → (g : ℕ) → HistoryFits (run_after words s g)
unfolding run_after
run_fits words f zero = f
run_fits words f (suc g) = state_fits (words g) (run_fits words f g) 20

pub groups_fits : (bs : List ℕ) (p c : ℕ) (states : List QoaLms) (g : ℕ)
    → ((j : ℕ) → j < c → HistoryFits (lms_of states j)) → (j : ℕ) → j < c → HistoryFits (lms_of (groups_states bs p c states g) j)
groups_fits bs p c states g f =
    groups_each bs p c states g HistoryFits (record { fit = λ i. record { sfits = lit< tt } }) (λ j h. run_fits (word_at bs p c j) (f j h) g)

-- ---- samples

pub channel_at_fits : (words : ℕ → ℕ) (s : QoaLms) (k : ℕ) → SFits w16 (channel_at words s k)
unfolding channel_at
channel_at_fits words s k = sample_at_fits (words (k / 20)) (run_after words s (k / 20)) (k % 20)

pub groups_at_fits : (bs : List ℕ) (p c : ℕ) (states : List QoaLms) (k : ℕ) → SFits w16 (groups_at bs p c states k)
unfolding groups_at
groups_at_fits bs p c states k = channel_at_fits (word_at bs p c (k % c)) (lms_of states (k % c)) (k / c)
