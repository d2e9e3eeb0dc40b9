-- The bound of the weights grows as the samples that remain are decoded, as fast as the weights can. Assumes nothing.
use Prim.Native.Nat.{ℕ, ◌+◌, ◌-◌, ◌*◌, ◌^◌, ◌≤◌, ◌<◌, min}
use native.Mathlib.Omega.{arith}
use Rattle.format.specs.Format.{slices_of}
use Rattle.state.specs.States.{weight_bound}

-- whatever remains
pub bound_most : (r : ℕ) → weight_bound r ≤ 58756608
unfolding weight_bound
bound_most r = omega arith

pub bound_small : (r : ℕ) → weight_bound r < 2 ^ 28
bound_small r = omega (arith, bound_most r)

-- numbers of 16 bits are within it
pub bound_least : (r : ℕ) → 32768 ≤ weight_bound r
unfolding weight_bound
bound_least r = omega arith

-- fewer samples leave more room
pub bound_falls : (r s : ℕ) → s ≤ r → weight_bound r ≤ weight_bound s
unfolding weight_bound slices_of
bound_falls r s h = omega arith

-- q slices of a channel add at most 17920 each, and leave the weights within the bound of what remains after them
pub bound_grows : (r q : ℕ) → r ≤ 65535 → q ≤ slices_of r → weight_bound r + 17920 * q ≤ weight_bound (r - min (20 * q) r)
unfolding weight_bound slices_of
bound_grows r q h l = omega arith
