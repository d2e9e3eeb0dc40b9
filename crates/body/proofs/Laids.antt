-- Laws of blocks that are laid one after another. Assumes nothing.
use Prim.Native.Nat.{ℕ, zero, suc, ◌+◌, ◌*◌, ◌≤◌, ◌<◌}
use mathlib.Core.Path.{◌≡◌, refl, ap₂, ◌∙◌}
use mathlib.Core.List.{List, ◌++◌}
use native.Mathlib.Nat.{mul-one, zero-add}
use native.Mathlib.Omega.{arith}
use lib.Dec.{lit<}
use lib.ListN.{get_or, length, length-append}
use Rattle.word.specs.Bytes.{bytes_of}
use Rattle.word.specs.Parts.{written}
use Rattle.word.proofs.BytesLaws.{length_bytes}
use Rattle.word.proofs.Writes.{written_at}
use Rattle.lms.specs.declared.QoaLms.{QoaLms}
use Rattle.format.specs.Predictor.{four_word}
use Rattle.refusal.specs.Rules.{good}
use Rattle.refusal.specs.Lent.{laid_over}
use Rattle.body.specs.Laid.{laid, lms_bytes}
use Rattle.refusal.proofs.Lents.{length_over, over_put, over_then}
use Rattle.format.specs.Parts.{put_lms}

-- blocks of one length
pub length_laid : (m n : ℕ) (f : ℕ → List ℕ) → ((i : ℕ) → length (f i) ≡ m) → length (laid n f) ≡ n * m
unfolding laid
length_laid m zero f same = omega arith
length_laid m (suc n) f same = omega (arith, length-append (laid n f) (f n), same n, length_laid m n f same)

-- only the blocks below n count
pub laid_ext : (n : ℕ) (f g : ℕ → List ℕ) → ((i : ℕ) → i < n → f i ≡ g i) → laid n f ≡ laid n g
unfolding laid
laid_ext zero f g same = refl
laid_ext (suc n) f g same = ap₂ ◌++◌ (laid_ext n f g (λ i l. same i (omega arith))) (same n (omega arith))

-- words of 8 bytes, and predictors of 16
pub length_words : (n : ℕ) (w : ℕ → ℕ) → length (laid n (λ j. bytes_of 8 (w j))) ≡ n * 8
length_words n w = length_laid 8 n (λ j. bytes_of 8 (w j)) (λ j. length_bytes 8 (w j))

pub length_lms : (lms : QoaLms) → length (lms_bytes lms) ≡ 16
length_lms lms = omega (arith, length-append (bytes_of 8 (four_word lms.history)) (bytes_of 8 (four_word lms.weights)), length_bytes 8 (four_word lms.history), length_bytes 8 (four_word lms.weights))

pub length_states : (n : ℕ) (s : ℕ → QoaLms) → length (laid n (λ j. lms_bytes (s j))) ≡ n * 16
length_states n s = length_laid 16 n (λ j. lms_bytes (s j)) (λ j. length_lms (s j))

-- ---- blocks of one length, laid over an output from a place on

module _ (m : ℕ) (f : ℕ → List ℕ) (same : (i : ℕ) → length (f i) ≡ m) (out : List ℕ) (p : ℕ) where
  pub length_blocks : (n : ℕ) → p + m * n ≤ length out → length (laid_over out p (good (laid n f))) ≡ length out
  length_blocks n room = length_over out p (laid n f) (omega (arith, length_laid m n f same))

  -- one block more
  pub next_block : (n q : ℕ) → q ≡ p + m * n → p + m * n ≤ length out → laid_over (laid_over out p (good (laid n f))) q (good (f n)) ≡ laid_over out p (good (laid (suc n) f))
  unfolding laid
  next_block n q e room =
      let long = length_laid m n f same in
      over_then out p q (laid n f) (f n) (omega arith) (omega arith)

-- a predictor, stored
pub over_lms : (out : List ℕ) (p : ℕ) (lms : QoaLms) → p + 16 ≤ length out → put_lms out p lms ≡ laid_over out p (good (lms_bytes lms))
unfolding put_lms
over_lms out p lms room =
    let h = bytes_of 8 (four_word lms.history) in
    let w = bytes_of 8 (four_word lms.weights) in
    let long = length_bytes 8 (four_word lms.history) in
    rw (over_put out p 8 (four_word lms.history) (omega arith))
    (over_put (laid_over out p (good h)) (p + 8) 8 (four_word lms.weights) (omega (arith, length_over out p h (omega arith)))
    ∙ over_then out p (p + 8) h w (omega arith) (omega arith))

-- what stands at a place that was stored to
pub written_here : {A : Type 0} (f : ℕ → A) (out : List A) (n i : ℕ) (d : A) → i < n → i < length out → get_or (written f out 0 1 n) i d ≡ f i
written_here f out n i d h room = rw (zero-add, mul-one) at (written_at f out 0 1 n i d (lit< tt) h (rw (zero-add, mul-one) room))
