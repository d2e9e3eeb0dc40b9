-- What a call hands back at a reader's place, from what the decoder's call promises of the state set to that place. Assumes nothing.
use mathlib.Core.Path.{◌≡◌, refl, sym, ap, ◌∙◌}
use mathlib.Core.List.{List}
use mathlib.Core.Option.{Option, none, some}
use Prim.Native.Nat.{ℕ}
use Rattle.std.specs.Prelude.{Result, Ok, Err}
use Rattle.refusal.specs.Rules.{Rule, good, refused, unless, first_of}
use Rattle.refusal.proofs.Rules.{never}
use Rattle.refusal.specs.Refusals.{number_of, told}
use Rattle.refusal.specs.declared.Done.{Done}
use Rattle.refusal.specs.declared.Refusal.{Refusal}
use Rattle.state.specs.View.{View, view}
use Rattle.state.specs.declared.QoaDecoder.{QoaDecoder}
use Rattle.into.specs.Left.{CallDone, Leaves}
use Rattle.reader.specs.Read.{Handed, HandedDone, placed, there}

module _ {A : Type 0} (at : ℕ) (d : QoaDecoder) (v : View) (x : A) where
  -- a refusal: place and state as given
  kept : (o : Option ℕ) (n : ℕ) → refused n ≡ unless o (good x) → Handed o at d v at d
  kept none n e = never x n (sym e)
  kept (some m) n e = (refl, refl)

  -- else those of the decoder's call
  gone : (o : Option ℕ) (y : A) (c : QoaDecoder) → good y ≡ unless o (good x) → Leaves o (placed at d) v c → Handed o at d v c.at c
  unfolding view
  gone none y c e l = (ap (λ (w : View). w.at) l, l)
  gone (some m) y c e l = never y m e

  -- the same, by the call's answer
  module _ (rules : List Rule) (r : Done (Result A Refusal) QoaDecoder) (done : CallDone rules x (placed at d) v r) where
    pub handed_kept : (s : Done (Result A Refusal) QoaDecoder) (n : Refusal) → r.answer ≡ Err n → s.answer ≡ Err n → s.state ≡ d → HandedDone rules x at d v at s
    handed_kept s n e answer state = record {
      told = ap told (answer ∙ sym e) ∙ done.told;
      left = rw state (kept (first_of rules) (number_of n) (sym (ap told e) ∙ done.told));
    }

    pub handed_gone : (y : A) → r.answer ≡ Ok y → HandedDone rules x at d v r.state.at r
    handed_gone y e = record {
      told = done.told;
      left = gone (first_of rules) y r.state (sym (ap told e) ∙ done.told) done.left;
    }

-- reader and state of an accepted call, taken together, mean just what the call defines: so the laws of the decoder's calls (`into_after_good` and its like) hold of them
pub handed_again : (at : ℕ) (d : QoaDecoder) (v : View) (at' : ℕ) (after : QoaDecoder) → Handed none at d v at' after → there at' after ≡ v
unfolding view placed
handed_again at d v at' after h = ap (λ (n : ℕ). there n after) (h.0 ∙ sym (ap (λ (w : View). w.at) h.1)) ∙ h.1
