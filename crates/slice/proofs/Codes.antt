-- What a slice's row and its gains hold at one of its codes, for the loops that store. Assumes nothing.
use mathlib.Core.Path.{◌≡◌, ap, ap₂, ◌∙◌}
use mathlib.Core.List.{List, []}
use Prim.Native.Nat.{ℕ, ◌≤◌, ◌<◌}
use native.Mathlib.Nat.{mod-lt}
use lib.Dec.{lit<}
use lib.IntN.{ℤ, nat_abs}
use lib.ListN.{get_or}
use mir.Facts.{to_z-of_z}
use mir.Syntax.{w32}
use Rattle.wrap.proofs.Integers.{fits_abs, reread}
use Rattle.word.specs.Word.{code_of, scale_of}
use Rattle.ahead.specs.Parts.{gains_of, SmallGains}
use Rattle.lms.specs.Predictor.{at}
use Rattle.ahead.proofs.GainLaws.{gains_small}
use Rattle.scale.specs.Tables.{row_of}
use Rattle.slice.specs.Slice.{residual_at}
use Rattle.slice.proofs.Growth.{residual_small}
use Rattle.slice.specs.Parts.{GainsOf}

module _ (word i : ℕ) {code : ℕ} (code_is : code ≡ code_of word i) where
  pub code_lt : code < 8
  code_lt = rw code_is (mod-lt _ (lit< tt))

  -- the table value, as the machine holds it
  module _ {row : List ℤ} (row_is : row ≡ row_of (scale_of word)) where
    pub value_there : reread w32 (at row code) ≡ residual_at word i
    value_there = ap₂ (λ (l : List ℤ) (k : ℕ). reread w32 (at l k)) row_is code_is ∙ to_z-of_z {w = w32} (fits_abs _ (residual_small word i) (lit< tt))

    pub value_small : nat_abs (reread w32 (at row code)) ≤ 14336
    value_small = rw value_there (residual_small word i)

  -- what a weight gains by it
  module _ (gains : List (List ℤ)) (all : GainsOf gains (row_of (scale_of word))) where
    pub gains_there : get_or gains code [] ≡ gains_of (residual_at word i)
    gains_there = all code code_lt ∙ ap (λ (k : ℕ). gains_of (at (row_of (scale_of word)) k)) code_is

    pub small_there : SmallGains (get_or gains code [])
    small_there = rw gains_there (gains_small (residual_at word i) (residual_small word i))
