-- What a call on a decoder hands back: its answer, and a state, which is the one it was given on a refusal, else one with the view that the call defines. Assumes nothing.
use Rattle.std.specs.Prelude.{ℕ, ◌≡◌, List, Result}
use mathlib.Core.Option.{Option, none, some}
use Rattle.refusal.specs.Rules.{Rule, after, first_of, good}
use Rattle.refusal.specs.Refusals.{told}
use Rattle.refusal.specs.declared.Done.{Done}
use Rattle.refusal.specs.declared.Refusal.{Refusal}
use Rattle.state.specs.View.{View, view}
use Rattle.state.specs.declared.QoaDecoder.{QoaDecoder}

abbrev pub Leaves : Option ℕ → QoaDecoder → View → QoaDecoder → Type 0
Leaves none d v after = view after ≡ v
Leaves (some n) d v after = after ≡ d

-- what a call promises of the state d, by its order of refusals, its value and the view that it leaves
pub record CallDone {A : Type 0} (rules : List Rule) (x : A) (d : QoaDecoder) (v : View) (r : Done (Result A Refusal) QoaDecoder) : Type 0 where
  pub told : told r.answer ≡ after rules (good x)
  pub left : Leaves (first_of rules) d v r.state
