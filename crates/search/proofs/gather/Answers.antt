-- `search::gather` meets its contract. The invariant: the first `i` are in place, and each is a number of 16 bits.
-- Assumes nothing.
use Prim.Native.Nat.{ℕ, ◌+◌, ◌*◌, ◌-◌, ◌≤◌, ◌<◌}
use mathlib.Core.Path.{◌∙◌}
use native.Mathlib.Nat.{mul-le-mul_right}
use native.Mathlib.Omega.{arith}
use lib.IntN.{ℤ, pos}
use lib.ListN.{length}
use Rattle.std.proofs.lemmas.List.{take-append-le}
use Rattle.lms.specs.Predictor.{at}
use Rattle.search.specs.Search.{strided}
use Rattle.search.proofs.Lists.{front_table}
use Rattle.search.proofs.Fitting.{table_fits}
use Rattle.search.proofs.gather.Goals as goal
use Rattle.search.proofs.gather.Goals.{In-loop-i}

-- The place that is read is no further than the last one.
inside : (start stride n i length : ℕ) → i < n → start + (n - 1) * stride < length → start + i * stride < length
inside start stride n i length h last =
    let l : i ≤ n - 1 = omega arith in
    omega (arith, mul-le-mul_right stride l)

pub returns : goal.returns
unfolding strided
returns c =
    let a = c.args in
    let o = c.loop-i in
    let place : ℕ → ℤ = λ k. at a.samples.now (a.start + k * a.stride) in
    let room : a.n ≤ length o.place-items = omega arith in (
      take-append-le a.n o.place-items _ room ∙ front_table place o.place-items (pos 0) a.n (λ k h. o.invariant.placed k (omega arith)) room,
      table_fits place a.n (λ k h. o.invariant.fits k (omega arith)),
    )
