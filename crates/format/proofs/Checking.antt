-- Laws of the checks of a frame: how the code puts them together, and what passes them. Assumes nothing.
use Prim.Native.Nat.{ℕ, ◌≤◌}
use mathlib.Core.Path.{◌≡◌, refl, ap, ◌∙◌}
use mathlib.Core.Bool.{Bool, true, false}
use mathlib.Core.List.{List, [], ◌∷◌, ◌++◌}
use mathlib.Core.Option.{none}
use native.Mathlib.Omega.{arith}
use Rattle.refusal.specs.Rules.{Rule, ◌gives◌, first_of}
use Rattle.refusal.proofs.Rules.{Quiet, quiet, quiet_both, quiet_parts}
use Rattle.word.proofs.Tests.{tests}
use Rattle.format.specs.Format.{state_end}
use Rattle.format.specs.Header.{header_rules}
use Rattle.format.specs.Part.{cut_rules}
use Rattle.format.specs.Checks.{frame_rules, kind_rules, same_rules, state_rules}
use Rattle.format.specs.Grammar.{Passes}
use Rattle.format.specs.Parts.{sooner}
use Rattle.format.specs.declared.frame.FrameHeader.{FrameHeader}
use Rattle.format.specs.declared.checks.First.{First}
use Rattle.format.specs.declared.checks.Kind.{Kind}
use Rattle.format.specs.declared.checks.Kind.TheVariants.{Like}
use Rattle.format.proofs.Headers.{passes, quiet_header}

-- ---- of two lists of rules, the first refusal is that of the first list, or else that of the second

pub first_append : (a b : List Rule) → first_of (a ++ b) ≡ sooner (first_of a) (first_of b)
unfolding first_of
first_append [] b = refl
first_append ((true gives n) ∷ a) b = refl
first_append ((false gives n) ∷ a) b = first_append a b

module _ (kind : Kind) (h : FrameHeader) (need left : ℕ) where
  pub in_order : first_of (frame_rules kind h need left) ≡ sooner (first_of (header_rules h)) (sooner (first_of (kind_rules kind h left)) (first_of (cut_rules need left)))
  unfolding frame_rules
  in_order =
      first_append (header_rules h) (kind_rules kind h left ++ cut_rules need left)
      ∙ ap (sooner (first_of (header_rules h))) (first_append (kind_rules kind h left) (cut_rules need left))

-- ---- what a frame that passes is known to have, and the other way round

pub record Checks (kind : Kind) (h : FrameHeader) (need left : ℕ) : Type 0 where
  pub header : Passes h
  pub like : Quiet (kind_rules kind h left)
  pub there : need ≤ left

module _ (kind : Kind) (h : FrameHeader) (need left : ℕ) where
  pub checks : Quiet (frame_rules kind h need left) → Checks kind h need left
  unfolding frame_rules
  checks q =
      let parts = quiet_parts (header_rules h) (kind_rules kind h left ++ cut_rules need left) q in
      let rest = quiet_parts (kind_rules kind h left) (cut_rules need left) parts.1 in
      record { header = passes h parts.0; like = rest.0; there = omega (arith, tests) }

  pub passed : first_of (frame_rules kind h need left) ≡ none → Checks kind h need left
  passed e = checks (quiet _ e)

  pub quiet_checks : Checks kind h need left → Quiet (frame_rules kind h need left)
  unfolding frame_rules
  quiet_checks k =
      quiet_both (header_rules h) (kind_rules kind h left ++ cut_rules need left) (quiet_header h k.header)
      (quiet_both (kind_rules kind h left) (cut_rules need left) k.like (omega (arith, tests, k.there)))

-- ---- a frame like the first

pub record Same (f : First) (h : FrameHeader) : Type 0 where
  pub same_channels : h.channels ≡ f.channels
  pub same_rate : h.rate ≡ f.rate

pub like_same : (f : First) (h : FrameHeader) (left : ℕ) → Quiet (kind_rules (Like f) h left) → Same f h
like_same f h left q =
    let parts = quiet_parts (state_rules f.fixed h.channels left) (same_rules f.channels f.rate h) q in
    record { same_channels = omega (arith, tests); same_rate = omega (arith, tests) }

pub same_like : (f : First) (h : FrameHeader) (left : ℕ) → Same f h → state_end h.channels ≤ left → Quiet (kind_rules (Like f) h left)
same_like f h left s room = quiet_both (state_rules f.fixed h.channels left) (same_rules f.channels f.rate h) (state f.fixed) (omega (arith, tests, s))
  where
    state : (fixed : Bool) → Quiet (state_rules fixed h.channels left)
    state true = tt
    state false = omega (arith, tests)
