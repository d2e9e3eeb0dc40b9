-- What `chunks` gives at each turn of a loop: the samples of one frame after the other. Assumes nothing.
use Prim.Native.Nat.{ℕ, ◌+◌, ◌*◌, ◌≤◌, ◌<◌, min}
use mathlib.Core.Path.{◌≡◌, ap, sym, ◌∙◌}
use mathlib.Core.List.{List, ◌++◌}
use mathlib.Core.Logic.{dite}
use native.Mathlib.Decide.{dec_le}
use native.Mathlib.Omega.{arith}
use lib.IntN.{ℤ}
use lib.ListN.{length, take, drop, length-drop}
use lib.Seq.{drop-drop, take_all}
use denote.Ref.{Bor}
use Rattle.std.specs.Prelude.{Some, None}
use Rattle.std.specs.Iterator.Adapters.{enumerate_count, enumerate_source, enumerate_steps}
use Rattle.std.specs.Slice.Iter.{chunks_rest, chunks_size, chunks_steps}
use Rattle.std.specs.declared.iter.Enumerate.{Enumerate}
use Rattle.std.specs.declared.slice.Chunks.{Chunks}
use Rattle.std.proofs.lemmas.List.{drop_all, drop_at, take_at}

-- what is left at turn n
pub record AtTurn (most : ℕ) (samples : List ℤ) (n : ℕ) (s : Enumerate (Chunks ℤ)) : Type 0 where
  pub size : chunks_size (enumerate_source s) ≡ most
  pub rest : chunks_rest (enumerate_source s) ≡ drop (most * n) samples
  pub count : enumerate_count s ≡ n

module _ {A : Type 0} (m : ℕ) where
  pub take_min : (l : List A) → take (min m (length l)) l ≡ take m l
  take_min l =
      dite (dec_le m (length l))
      (λ less. let same : min m (length l) ≡ m = omega arith in ap (λ (n : ℕ). take n l) same)
      (λ more. take_all (min m (length l)) l (omega arith) ∙ sym (take_all m l (omega arith)))

  drop_min : (l : List A) → drop (min m (length l)) l ≡ drop m l
  drop_min l =
      dite (dec_le m (length l))
      (λ less. let same : min m (length l) ≡ m = omega arith in ap (λ (n : ℕ). drop n l) same)
      (λ more. drop_all (min m (length l)) l (omega arith) ∙ sym (drop_all m l (omega arith)))

  -- the first m of a list, or all of it, and the rest
  first_part : (l x r : List A) → l ≡ x ++ r → length x ≡ min m (length l) → (x ≡ take m l) × (r ≡ drop m l)
  first_part l x r e n =
      (sym (take_at x r (min m (length l)) n) ∙ ap (take (min m (length l))) (sym e) ∙ take_min l, sym (drop_at x r (min m (length l)) n) ∙ ap (drop (min m (length l))) (sym e) ∙ drop_min l)

module _ (most : ℕ) (samples : List ℤ) (n : ℕ) (s t : Enumerate (Chunks ℤ)) (at : AtTurn most samples n s) where
  pub turn : (f : ℕ) (x : Bor (List ℤ)) → enumerate_steps chunks_steps s (Some (f, x)) t
      → (f ≡ n) × (x.now ≡ take most (drop (most * n) samples)) × (most * n < length samples) × AtTurn most samples (n + 1) t
  turn f x given =
      let parts = first_part most (chunks_rest (enumerate_source s)) x.now (chunks_rest (enumerate_source t)) given.0.1.0 (rw (← at.size) given.0.1.1) in (
        given.1 ∙ at.count,
        rw at.rest at parts.0,
        omega (arith, given.0.1.2, ap length at.rest, length-drop (most * n) samples),
        record { size = given.0.0 ∙ at.size; rest = rw at.rest at parts.1 ∙ drop-drop most (most * n) samples ∙ ap (λ (k : ℕ). drop k samples) (omega arith); count = given.2 ∙ ap (λ (k : ℕ). k + 1) at.count },
      )

  pub turned : enumerate_steps chunks_steps s None t → length samples ≤ most * n
  turned given = omega (arith, given.0.1.0, ap length at.rest, length-drop (most * n) samples)

pub first_turn : (most : ℕ) (samples : List ℤ) (s : Enumerate (Chunks ℤ)) (c : Chunks ℤ) → enumerate_source s ≡ c → enumerate_count s ≡ 0 → chunks_rest c ≡ samples → chunks_size c ≡ most → AtTurn most samples 0 s
first_turn most samples s c source count rest size =
    record { size = rw source size; rest = rw source (let none : most * 0 ≡ 0 = omega arith in rw none rest); count = count }
