-- The laws of what is laid over lent memory: stores in a row are laid over it, and lists laid one after the other are laid as one. Assumes nothing.
use Prim.Native.Nat.{ℕ, ◌+◌, ◌-◌, ◌≤◌}
use mathlib.Core.Path.{◌≡◌, ap, ap₂, sym, ◌∙◌}
use mathlib.Core.List.{List, [], ◌++◌, append_assoc}
use native.Mathlib.Omega.{arith}
use lib.ListN.{length, take, drop, length-append, length-drop, take-append-drop}
use lib.Seq.{drop-append-add, drop_at, drop-drop, length-take-le, take_at}
use Rattle.word.specs.Bytes.{bytes_of}
use Rattle.word.specs.Parts.{put, written}
use Rattle.word.proofs.BytesLaws.{length_bytes, put_list}
use Rattle.word.proofs.Tables.{length_table}
use Rattle.word.proofs.Writes.{written_list}
use Rattle.refusal.specs.Rules.{good}
use Rattle.refusal.specs.Lent.{laid_over}
use Rattle.word.specs.Table.{table}

module _ {A : Type 0} (out : List A) where
  -- what is past the values, counted from the start
  pub over_at : (p : ℕ) (xs : List A) → laid_over out p (good xs) ≡ take p out ++ (xs ++ drop (p + length xs) out)
  unfolding laid_over
  over_at p xs = rw drop-drop

  -- none
  pub over_nil : (p : ℕ) → laid_over out p (good []) ≡ out
  unfolding laid_over
  over_nil p = take-append-drop p out

  pub length_over : (p : ℕ) (xs : List A) → p + length xs ≤ length out → length (laid_over out p (good xs)) ≡ length out
  unfolding laid_over
  length_over p xs room = simp (length-append, length-drop, length-take-le p out (omega arith)) (omega arith)

  -- the values themselves
  pub over_front : (xs : List A) (n : ℕ) → length xs ≡ n → take n (laid_over out 0 (good xs)) ≡ xs
  unfolding laid_over
  over_front xs n long = take_at xs (drop (length xs) out) n long

  -- stores in a row
  pub over_written : (f : ℕ → A) (p n : ℕ) → p + n ≤ length out → written f out p 1 n ≡ laid_over out p (good (table n f))
  over_written f p n room = rw (over_at p (table n f), length_table) (written_list f out p n room)

  -- one after the other
  pub over_more : (p : ℕ) (xs ys : List A) → p + length xs ≤ length out → laid_over (laid_over out p (good xs)) (p + length xs) (good ys) ≡ laid_over out p (good (xs ++ ys))
  unfolding laid_over
  over_more p xs ys room =
      let first : List A = take p out ++ xs in
      let rest : List A = drop (length xs) (drop p out) in
      let whole : take p out ++ (xs ++ rest) ≡ first ++ rest = sym (append_assoc (take p out) xs rest) in
      let long : length first ≡ p + length xs = length-append (take p out) xs ∙ ap (λ (n : ℕ). n + length xs) (length-take-le p out (omega arith)) in
      let far : drop (length ys) (drop (p + length xs) (first ++ rest)) ≡ drop (length (xs ++ ys)) (drop p out) =
      ap (drop (length ys)) (drop_at first rest (p + length xs) long)
      ∙ drop-drop (length ys) (length xs) (drop p out)
      ∙ ap (λ (n : ℕ). drop n (drop p out)) (sym (length-append xs ys)) in
      rw whole (ap₂ (λ (a b : List A). a ++ (ys ++ b)) (take_at first rest (p + length xs) long) far
      ∙ append_assoc (take p out) xs (ys ++ drop (length (xs ++ ys)) (drop p out))
      ∙ ap (λ (l : List A). take p out ++ l) (sym (append_assoc xs ys (drop (length (xs ++ ys)) (drop p out)))))

  -- the same, where the place is known by another number
  pub over_then : (p q : ℕ) (xs ys : List A) → q ≡ p + length xs → p + length xs ≤ length out → laid_over (laid_over out p (good xs)) q (good ys) ≡ laid_over out p (good (xs ++ ys))
  over_then p q xs ys e room = rw e (over_more p xs ys room)

  -- over all that was laid there before
  pub over_again : (xs ys : List A) → length xs ≤ length ys → laid_over (laid_over out 0 (good xs)) 0 (good ys) ≡ laid_over out 0 (good ys)
  unfolding laid_over
  over_again xs ys h =
      let k : ℕ = length ys - length xs in
      let far : length ys ≡ length xs + k = omega arith in
      ap (λ (l : List A). ys ++ l)
      (ap (λ (n : ℕ). drop n (xs ++ drop (length xs) out)) far
      ∙ drop-append-add xs (drop (length xs) out) k
      ∙ drop-drop k (length xs) out
      ∙ ap (λ (n : ℕ). drop n out) (sym far))

-- ---- a number in bytes

pub over_put : (out : List ℕ) (p n w : ℕ) → p + n ≤ length out → put n out p w ≡ laid_over out p (good (bytes_of n w))
over_put out p n w room = rw (over_at out p (bytes_of n w), length_bytes) (put_list n out p w room)

-- behind bytes that were laid
pub then_put : (out : List ℕ) (p : ℕ) (xs : List ℕ) (q : ℕ) → q ≡ p + length xs → (n w : ℕ) → q + n ≤ length out
    → put n (laid_over out p (good xs)) q w ≡ laid_over out p (good (xs ++ bytes_of n w))
then_put out p xs q there n w room =
    over_put (laid_over out p (good xs)) q n w (omega (arith, length_over out p xs (omega arith))) ∙ over_then out p q xs (bytes_of n w) there (omega arith)
