-- Where a list of a request stands, by the tests on it. Assumes nothing.
use mathlib.Core.Path.{◌≡◌, refl}
use mathlib.Core.Bool.{true, false}
use mathlib.Core.Logic.{◌≢◌}
use mathlib.Core.List.{List}
use Prim.Native.Nat.{ℕ, ◌+◌, ◌*◌, ◌≤◌, ◌<◌}
use native.Mathlib.Omega.{arith}
use borrow.Author.Tests.{eq-eqb, le-leb, lt-leb, ne_eqb}
use lib.Dec.{eqb, leb}
use lib.ListN.{get_or, length}
use Rattle.word.specs.Bytes.{be32}
use Rattle.lines.specs.Parts.{is_part, part_at, PartTaken}

module _ (ask : List ℕ) (at kind width most : ℕ) where
  -- a test that is not met
  absent : at ≤ length ask → is_part ask at kind width most ≡ false → PartTaken ask at kind width most (record { from = at; count = 0; next = at })
  unfolding part_at
  absent here none = record { part = simp none; count = omega arith; end = omega arith; within = here }

  pub too_short : at ≤ length ask → length ask < at + 5 → PartTaken ask at kind width most (record { from = at; count = 0; next = at })
  unfolding is_part
  too_short here h = absent here (simp (lt-leb (at + 5) (length ask) h))

  module _ (room : at + 5 ≤ length ask) where
    there : leb (at + 5) (length ask) ≡ true
    there = le-leb (at + 5) (length ask) room

    pub other_kind : get_or ask at 0 ≢ kind → PartTaken ask at kind width most (record { from = at; count = 0; next = at })
    unfolding is_part
    other_kind h = absent (omega arith) (simp (there, ne_eqb (get_or ask at 0) kind h))

    module _ (same : get_or ask at 0 ≡ kind) where
      known : eqb (get_or ask at 0) kind ≡ true
      known = eq-eqb (get_or ask at 0) kind same

      pub too_many : most < be32 ask (at + 1) → PartTaken ask at kind width most (record { from = at; count = 0; next = at })
      unfolding is_part
      too_many h = absent (omega arith) (simp (there, known, lt-leb (be32 ask (at + 1)) most h))

      module _ (few : be32 ask (at + 1) ≤ most) where
        pub cut_off : length ask < at + 5 + be32 ask (at + 1) * width → PartTaken ask at kind width most (record { from = at; count = 0; next = at })
        unfolding is_part
        cut_off h = absent (omega arith) (simp (there, known, le-leb (be32 ask (at + 1)) most few, lt-leb (at + 5 + be32 ask (at + 1) * width) (length ask) h))

        pub whole : at + 5 + be32 ask (at + 1) * width ≤ length ask
            → PartTaken ask at kind width most (record { from = at + 5; count = be32 ask (at + 1); next = at + 5 + be32 ask (at + 1) * width })
        unfolding is_part part_at
        whole h = record {
          part = simp (there, known, le-leb (be32 ask (at + 1)) most few, le-leb (at + 5 + be32 ask (at + 1) * width) (length ask) h);
          count = few;
          end = refl;
          within = h;
        }
