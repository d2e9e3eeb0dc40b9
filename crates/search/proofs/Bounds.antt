-- How large a candidate's rank, word and weights can be after `i` samples.
-- Assumes nothing.
use Prim.Native.Nat.{ℕ, ◌+◌, ◌*◌, ◌^◌, ◌≤◌, ◌<◌}
use mathlib.Core.Path.{◌≡◌}
use native.Mathlib.Nat.{pow-le-pow_right}
use native.Mathlib.Omega.{arith}
use lib.Dec.{lit<}
use lib.IntN.{ℤ}
use mir.Syntax.{w16}
use mir.Val.{SFits}
use Rattle.word.proofs.Push.{push_lt}
use Rattle.lms.specs.Parts.{WeightsWithin}
use Rattle.lms.specs.declared.QoaLms.{QoaLms}
use Rattle.lms.proofs.Bounds.{within_more}
use Rattle.trial.proofs.Bounds.{tried_code_lt, tried_cost_lt, tried_within}
use Rattle.search.specs.Candidate.{start_of, step_of}
use Rattle.search.specs.declared.Run.{Run}

-- A word begins with four bits and gains three with each sample; weights that began within B move by at most 896 with each.
pub record Sized (B i : ℕ) (r : Run) : Type 0 where
  pub word : r.word < 2 ^ (4 + 3 * i)
  pub within : WeightsWithin (B + i * 896) r.lms

pub sized_start : {B : ℕ} {lms : QoaLms} (f : ℕ) → f < 16 → WeightsWithin B lms → Sized B 0 (start_of lms f)
unfolding start_of
sized_start f h w = record { word = h; within = within_more (omega arith) w }

pub sized_step : {B i : ℕ} {r : Run} (f : ℕ) (x : ℤ) → f < 16 → Sized B i r → Sized B (i + 1) (step_of f x r)
unfolding step_of
sized_step {B} {i} {r} f x h b =
    let more : 4 + 3 * i + 3 ≡ 4 + 3 * (i + 1) = omega arith in
    record {
      word = rw (← more) (push_lt (4 + 3 * i) 3 b.word (tried_code_lt r.lms x f));
      within = within_more (omega arith) (tried_within x f h b.within);
    }

-- Each sample of 16 bits adds less than 2^33 to the rank.
pub rank_step : (f : ℕ) (x : ℤ) (r : Run) (i : ℕ) → SFits w16 x → r.rank ≤ i * 2 ^ 33 → (step_of f x r).rank ≤ (i + 1) * 2 ^ 33
unfolding step_of
rank_step f x r i g h = omega (arith, tried_cost_lt r.lms x f g)

-- Before the last of twenty samples there is room for one code more.
pub sized_room : {r : Run} (i : ℕ) → i < 20 → Sized (2 ^ 29) i r → (r.word < 2 ^ 61) × WeightsWithin (2 ^ 30) r.lms
sized_room i h b =
    let p : 2 ^ (4 + 3 * i) ≤ 2 ^ 61 = pow-le-pow_right {n = 2} (lit< tt) {i = 4 + 3 * i} {j = 61} (omega arith) in
    (omega (arith, b.word), within_more (omega arith) b.within)
