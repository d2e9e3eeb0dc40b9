-- How far decoding moves the weights: 17920 a slice. Assumes nothing.
use mathlib.Core.List.{List}
use Prim.Native.Nat.{ℕ, zero, suc, ◌+◌, ◌*◌, zero-le}
use native.Mathlib.Omega.{arith}
use Rattle.lms.specs.Parts.{WeightsWithin}
use Rattle.lms.specs.declared.QoaLms.{QoaLms}
use Rattle.lms.proofs.Bounds.{within_more}
use Rattle.slice.proofs.Growth.{slice_within}
use Rattle.groups.specs.Channel.{run_after}
use Rattle.groups.specs.Groups.{word_at}
use Rattle.groups.proofs.GroupLaws.{groups_each}
use Rattle.groups.specs.Parts.{AllWithin, groups_states}

pub run_within : {B : ℕ} (words : ℕ → ℕ) {s : QoaLms} → WeightsWithin B s → (g : ℕ) → WeightsWithin (B + 17920 * g) (run_after words s g)
unfolding run_after
run_within words h zero = within_more (omega arith) h
run_within words h (suc g) = within_more (omega arith) (slice_within (words g) (run_within words h g))

pub groups_within : {B : ℕ} (bs : List ℕ) (p c : ℕ) (states : List QoaLms) (g : ℕ) → AllWithin B c states → AllWithin (B + 17920 * g) c (groups_states bs p c states g)
groups_within {B} bs p c states g h =
    groups_each bs p c states g (WeightsWithin (B + 17920 * g)) (record { bound = λ i. zero-le }) (λ j l. run_within (word_at bs p c j) (h j l) g)
