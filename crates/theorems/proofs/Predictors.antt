-- A predictor, read back: from its bytes come its four history and four weight numbers, and nothing else of it counts. Assumes nothing.
use Prim.Native.Nat.{ℕ, zero, suc, ◌/◌, ◌%◌}
use mathlib.Core.Path.{◌≡◌, refl, ap, sym, ◌∙◌}
use mathlib.Core.List.{List, [], append-nil}
use native.Mathlib.Omega.{arith}
use lib.Dec.{lit≤}
use lib.IntN.{ℤ}
use lib.ListN.{length, drop, drop_of_length-le}
use mir.Syntax.{w16}
use mir.Val.{SFits, to_z}
use Rattle.wrap.specs.Wrap.{low16}
use Rattle.wrap.proofs.Patterns.{read_low}
use Rattle.word.specs.Table.{table}
use Rattle.word.proofs.Tables.{table_ext}
use Rattle.lms.specs.Predictor.{at, dot, next_weight, predicted, updated}
use Rattle.lms.specs.declared.QoaLms.{QoaLms}
use Rattle.trial.specs.Trial.{heard, sample_of}
use Rattle.trial.specs.declared.Heard.{Heard}
use Rattle.format.specs.Predictor.{four_word, lms_at}
use Rattle.predictors.proofs.Predictors.{four_low, lms_of_put_low}
use Rattle.groups.specs.Channel.{channel_at, run_after}
use Rattle.slice.specs.Slice.{residual_at, sample_at, state_after}
use Rattle.refusal.specs.Lent.{laid_over}
use Rattle.body.specs.Laid.{lms_bytes}
use Rattle.body.proofs.Laids.{length_lms, over_lms}
use Rattle.lms.specs.Parts.{HistoryFits}
use Rattle.format.specs.Parts.{four_of, put_lms}

-- the first four of each
abbrev pub first_four : QoaLms → QoaLms
first_four s = record { history = table 4 (at s.history); weights = table 4 (at s.weights) }

-- ---- what a decoder hears depends on them alone

four_heard : (s : QoaLms) (value : ℤ) → heard (first_four s) value ≡ heard s value
unfolding heard sample_of predicted dot updated next_weight table
four_heard s value = refl

module _ (s : QoaLms) where
  four_state : (w n : ℕ) → state_after w (first_four s) (suc n) ≡ state_after w s (suc n)
  unfolding state_after
  four_state w zero = ap (λ (h : Heard). h.lms) (four_heard s (residual_at w 0))
  four_state w (suc n) = ap (λ (t : QoaLms). (heard t (residual_at w (suc n))).lms) (four_state w n)

  four_sample : (w i : ℕ) → sample_at w (first_four s) i ≡ sample_at w s i
  unfolding sample_at state_after
  four_sample w zero = ap (λ (h : Heard). h.sample) (four_heard s (residual_at w 0))
  four_sample w (suc i) = ap (λ (t : QoaLms). (heard t (residual_at w (suc i))).sample) (four_state w i)

  four_run : (words : ℕ → ℕ) (g : ℕ) → run_after words (first_four s) (suc g) ≡ run_after words s (suc g)
  unfolding run_after
  four_run words zero = four_state (words 0) 19
  four_run words (suc g) = ap (λ (t : QoaLms). state_after (words (suc g)) t 20) (four_run words g)

  four_slice : (words : ℕ → ℕ) (g i : ℕ) → sample_at (words g) (run_after words (first_four s) g) i ≡ sample_at (words g) (run_after words s g) i
  unfolding run_after
  four_slice words zero i = four_sample (words 0) i
  four_slice words (suc g) i = ap (λ (t : QoaLms). sample_at (words (suc g)) t i) (four_run words g)

  pub four_channel : (words : ℕ → ℕ) (k : ℕ) → channel_at words (first_four s) k ≡ channel_at words s k
  unfolding channel_at
  four_channel words k = four_slice words (k / 20) (k % 20)

-- ---- and they are read back, where they are numbers of 16 bits

four_read : (xs : List ℤ) → ((i : ℕ) → SFits w16 (at xs i)) → four_of (four_word xs) ≡ table 4 (at xs)
four_read xs fit = four_low xs ∙ table_ext 4 (λ i. to_z w16 (low16 (at xs i))) (at xs) (λ i h. read_low w16 0xffff refl (lit≤ tt) (fit i))

-- stored over its own bytes, a predictor is its bytes
stored_bytes : (s : QoaLms) → put_lms (lms_bytes s) 0 s ≡ lms_bytes s
unfolding laid_over
stored_bytes s =
    let long = length_lms s in
    let past : drop (length (lms_bytes s)) (lms_bytes s) ≡ [] = drop_of_length-le (lms_bytes s) {i = length (lms_bytes s)} (omega arith) in
    over_lms (lms_bytes s) 0 s (omega arith) ∙ rw past (append-nil (lms_bytes s))

pub lms_read : (s : QoaLms) → HistoryFits s → ((i : ℕ) → SFits w16 (at s.weights i)) → lms_at (lms_bytes s) 0 ≡ first_four s
lms_read s history weights =
    let first = four_read s.history history.fit in
    let second = four_read s.weights weights in
    ap (λ (b : List ℕ). lms_at b 0) (sym (stored_bytes s))
    ∙ lms_of_put_low (lms_bytes s) 0 s (omega (arith, length_lms s))
    ∙ (λ j. record { history = first j; weights = second j })
