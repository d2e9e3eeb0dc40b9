-- Each public contract settles its call: what an answer tells is one-to-one, and any two answers that a contract permits are equal, with states of one view. Assumes nothing.
use Prim.Native.Nat.{ℕ}
use mathlib.Core.Path.{◌≡◌, sym, ap, ◌∙◌}
use mathlib.Core.Bool.{Bool}
use mathlib.Core.List.{List}
use mathlib.Core.Option.{Option, none, some}
use Rattle.refusal.specs.Rules.{first_of}
use Rattle.refusal.proofs.Told.{told_lem, told_refusal_lem}
use Rattle.state.specs.View.{view}
use Rattle.state.specs.States.{good_state}
use Rattle.state.specs.Opening.{OpenLeaves, open_rules}
use Rattle.state.specs.Facts.{facts_answer}
use Rattle.refusal.specs.Refusals.{told}
use Rattle.refusal.specs.declared.Refusal.{Refusal}
use Rattle.format.specs.declared.facts.Facts.{Facts}
use Rattle.std.specs.Prelude.{Result}
use Rattle.state.specs.declared.QoaDecoder.{QoaDecoder}
use Rattle.state.proofs.Openings.{Opens}

-- is_good
pub is_good_settled : (d : QoaDecoder) (bytes : ℕ) (r s : Bool) → r ≡ good_state (view d) bytes → s ≡ good_state (view d) bytes → r ≡ s
is_good_settled d bytes r s p q = p ∙ sym q

-- open_decoder
leaves_one : (o : Option ℕ) (bs : List ℕ) (d e : QoaDecoder) → OpenLeaves o bs d → OpenLeaves o bs e → view d ≡ view e
leaves_one none bs d e p q = p ∙ sym q
leaves_one (some n) bs d e p q = ap view (p ∙ sym q)

pub open_settled : (bs : List ℕ) (a b : Result Unit Refusal) (d e : QoaDecoder) → Opens bs a d → Opens bs b e → (a ≡ b) × (view d ≡ view e)
open_settled bs a b d e p q = (told_refusal_lem a b (p.0 ∙ sym q.0), leaves_one (first_of (open_rules bs)) bs d e p.1 q.1)

-- facts_given
pub facts_settled : (d : QoaDecoder) (bytes : ℕ) (a b : Result Facts Refusal) → told a ≡ facts_answer (view d) bytes → told b ≡ facts_answer (view d) bytes → a ≡ b
facts_settled d bytes a b p q = told_lem a b (p ∙ sym q)
