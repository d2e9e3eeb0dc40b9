-- Laws of a channel's slices: decoding them in two runs is decoding them in one. Assumes nothing.
use mathlib.Core.Path.{◌≡◌, refl, sym, ◌∙◌}
use mathlib.Core.List.{List}
use Prim.Native.Nat.{ℕ, zero, suc, ◌+◌, ◌*◌, ◌/◌, ◌%◌, ◌≤◌, ◌<◌}
use native.Mathlib.Nat.{add-suc, add-zero}
use native.Mathlib.Omega.{arith}
use lib.IntN.{ℤ}
use Rattle.word.specs.Parts.{written}
use Rattle.word.proofs.Writes.{written_ext, written_join_by}
use Rattle.lms.specs.declared.QoaLms.{QoaLms}
use Rattle.slice.specs.Slice.{sample_at}
use Rattle.groups.specs.Channel.{channel_at, run_after}

module _ (words : ℕ → ℕ) (s : QoaLms) where
  -- only the words of the slices that ran count
  pub run_ext : (other : ℕ → ℕ) (g : ℕ) → ((i : ℕ) → i < g → words i ≡ other i) → run_after words s g ≡ run_after other s g
  unfolding run_after
  run_ext other zero same = refl
  run_ext other (suc g) same = rw (run_ext other g (λ i h. same i (omega arith)), same g (omega arith))

  pub channel_ext : (other : ℕ → ℕ) (g k : ℕ) → k < 20 * g → ((i : ℕ) → i < g → words i ≡ other i) → channel_at words s k ≡ channel_at other s k
  unfolding channel_at
  channel_ext other g k h same =
      let here : words (k / 20) ≡ other (k / 20) = same (k / 20) (omega arith) in
      let state : run_after words s (k / 20) ≡ run_after other s (k / 20) = run_ext other (k / 20) (λ i l. same i (omega arith)) in
      rw (here, state)

  -- the predictor after g + h slices is that of the next h, from the predictor after g
  pub run_more : (g h : ℕ) → run_after words s (g + h) ≡ run_after (λ i. words (g + i)) (run_after words s g) h
  unfolding run_after
  run_more g zero = rw add-zero
  run_more g (suc h) = rw (add-suc, run_more g h)

  -- and the samples go on likewise
  pub channel_shift : (g k : ℕ) → channel_at words s (20 * g + k) ≡ channel_at (λ i. words (g + i)) (run_after words s g) k
  unfolding channel_at
  channel_shift g k =
      let slice : (20 * g + k) / 20 ≡ g + k / 20 = omega arith in
      let place : (20 * g + k) % 20 ≡ k % 20 = omega arith in
      rw (slice, place, run_more g (k / 20))

  -- the samples of slice g
  pub channel_slice : (g i : ℕ) → i < 20 → channel_at words s (20 * g + i) ≡ sample_at (words g) (run_after words s g) i
  unfolding channel_at
  channel_slice g i h =
      let slice : (20 * g + i) / 20 ≡ g = omega arith in
      let place : (20 * g + i) % 20 ≡ i = omega arith in
      rw (slice, place)

  -- the stores of one slice more, whole or short
  pub channel_stored : (out : List ℤ) (start stride g n : ℕ) → n ≤ 20
      → written (sample_at (words g) (run_after words s g)) (written (channel_at words s) out start stride (20 * g)) (start + 20 * g * stride) stride n
      ≡ written (channel_at words s) out start stride (20 * g + n)
  channel_stored out start stride g n h =
      written_ext (sample_at (words g) (run_after words s g)) (written (channel_at words s) out start stride (20 * g)) (start + 20 * g * stride) stride (λ i. channel_at words s (20 * g + i)) n
      (λ i l. sym (channel_slice g i (omega arith)))
      ∙ written_join_by (channel_at words s) out start stride (20 * g) n
