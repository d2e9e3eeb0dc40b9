-- The contract settles its call: what an answer tells is one-to-one, and any two answers that it permits are equal, with states of one view. Assumes nothing.
use mathlib.Core.Path.{◌≡◌, ap, sym, ◌∙◌}
use mathlib.Core.List.{List}
use mathlib.Core.Option.{Option, none, some}
use Prim.Native.Nat.{ℕ}
use lib.IntN.{ℤ}
use lib.ListN.{length}
use Rattle.refusal.specs.Rules.{Rule, first_of}
use Rattle.refusal.proofs.Told.{told_lem}
use Rattle.state.specs.View.{View, view}
use Rattle.state.specs.declared.QoaDecoder.{QoaDecoder}
use Rattle.into.specs.Left.{CallDone, Leaves}
use Rattle.into.specs.Into.{IntoDone, into_after, into_rules}
use Rattle.refusal.specs.declared.Done.{Done}
use Rattle.refusal.specs.declared.Refusal.{Refusal}
use Rattle.std.specs.Prelude.{Result}

-- a call hands back one state, by its view
pub leaves_one : (o : Option ℕ) (d : QoaDecoder) (v : View) (a b : QoaDecoder) → Leaves o d v a → Leaves o d v b → view a ≡ view b
leaves_one none d v a b p q = p ∙ sym q
leaves_one (some n) d v a b p q = ap view (p ∙ sym q)

-- of two answers that a call's promise permits
pub call_settled : {A : Type 0} (rules : List Rule) (x : A) (d : QoaDecoder) (v : View) (r s : Done (Result A Refusal) QoaDecoder) → CallDone rules x d v r → CallDone rules x d v s
    → (r.answer ≡ s.answer) × (view r.state ≡ view s.state)
call_settled rules x d v r s p q = (told_lem r.answer s.answer (p.told ∙ sym q.told), leaves_one (first_of rules) d v r.state s.state p.left q.left)

pub decode_into_settled : (bs : List ℕ) (d : QoaDecoder) (out : List ℤ) (r s : Done (Result ℕ Refusal) QoaDecoder) (o p : List ℤ) → IntoDone bs d out r o → IntoDone bs d out s p
    → (r.answer ≡ s.answer) × (view r.state ≡ view s.state) × (o ≡ p)
decode_into_settled bs d out r s o p x y = (
  told_lem r.answer s.answer (x.told ∙ sym y.told),
  leaves_one (first_of (into_rules bs (view d) (length out))) d (into_after bs (view d) (length out)) r.state s.state x.left y.left,
  x.stored ∙ sym y.stored,
)
