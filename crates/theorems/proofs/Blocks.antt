-- Blocks of one length that are laid one after another: what stands at each place. Assumes nothing.
use Prim.Native.Nat.{ℕ, zero, suc, ◌+◌, ◌*◌, ◌<◌}
use mathlib.Core.Path.{◌≡◌, ◌∙◌}
use mathlib.Core.List.{List}
use mathlib.Core.Logic.{⊎_elim}
use native.Mathlib.Nat.{eq-or-lt_of_le, le_of_suc-le-suc, not-suc-le-zero}
use native.Mathlib.Omega.{arith}
use lib.Arith.{digits_lt}
use lib.ListN.{length, get_or, get_or-append}
use lib.Seq.{get_or-append-add}
use Rattle.body.specs.Laid.{laid}
use Rattle.body.proofs.Laids.{length_laid}

pub at_block : (m : ℕ) (f : ℕ → List ℕ) → ((i : ℕ) → length (f i) ≡ m) → (n i r : ℕ) → i < n → r < m → get_or (laid n f) (i * m + r) 0 ≡ get_or (f i) r 0
unfolding laid
at_block m f same zero i r h l = absurd (not-suc-le-zero h)
at_block m f same (suc n) i r h l =
    let long = length_laid m n f same in
    ⊎_elim
    (λ (e : i ≡ n). let place : i * m + r ≡ length (laid n f) + r = rw (e, long) in rw (place, e) (get_or-append-add (laid n f) (f n) r 0))
    (λ less. let inside : i * m + r < n * m = digits_lt less l in get_or-append (laid n f) (f n) 0 (i * m + r) (omega arith) ∙ at_block m f same n i r less l)
    (eq-or-lt_of_le (le_of_suc-le-suc h))
