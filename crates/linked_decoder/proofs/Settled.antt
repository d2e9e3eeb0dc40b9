-- Any two answers that a contract permits are equal, with all that is left in lent memory: a statement for each C function. Assumes nothing.
use Prim.Native.Nat.{ℕ}
use mathlib.Core.Path.{◌≡◌, sym, ◌∙◌}
use mathlib.Core.List.{List}
use lib.Ieee.{Float}
use lib.IntN.{ℤ, pos}
use Rattle.refusal.specs.Rules.{Rule, good, ◌then◌}
use Rattle.state.specs.View.{View}
use Rattle.block.specs.DecoderBlock.{decoder_size}
use Rattle.codes.specs.Codes.{coded_seconds}
use Rattle.linked_decoder.specs.Linked.{DecodeLinked, FactsLinked, NextLinked, IntoLinked, ItemLinked, OpenLinked, facts_on}

-- two things that equal a third are equal
same : {A : Type 0} {x r s : A} → r ≡ x → s ≡ x → r ≡ s
same p q = p ∙ sym q

-- a call after which the state goes on
linked : (block : List ℕ) (rules : List Rule) (n : ℕ) (next : View) (r s : ℤ) (x y : List ℕ) → DecodeLinked block rules n next r x → DecodeLinked block rules n next s y → (r ≡ s) × (x ≡ y)
linked block rules n next r s x y p q = (same p.answer q.answer, same p.state q.state)

pub qoa_decoder_size : (r s : ℤ) → r ≡ pos decoder_size → s ≡ pos decoder_size → r ≡ s
qoa_decoder_size r s = same

pub qoa_decoder_open : (bs block : List ℕ) (r s : ℤ) (x y : List ℕ) → OpenLinked bs block r x → OpenLinked bs block s y → (r ≡ s) × (x ≡ y)
qoa_decoder_open bs block r s x y p q = (same p.answer q.answer, same p.state q.state)

pub qoa_decoder_into : (bs block : List ℕ) (out : List ℤ) (r s : ℤ) (x y : List ℕ) (v w : List ℤ) → IntoLinked bs block out r x v → IntoLinked bs block out s y w → (r ≡ s) × (x ≡ y) × (v ≡ w)
qoa_decoder_into bs block out r s x y v w p q = let call = linked _ _ _ _ r s x y p.call q.call in (call.0, call.1, same p.samples q.samples)

pub qoa_decoder_next_frame : (bs block : List ℕ) (r s : ℤ) (x y : List ℕ) → NextLinked bs block r x → NextLinked bs block s y → (r ≡ s) × (x ≡ y)
qoa_decoder_next_frame bs block = linked _ _ _ _

pub qoa_decoder_next_item : (bs block : List ℕ) (r s : ℤ) (x y : List ℕ) → ItemLinked bs block r x → ItemLinked bs block s y → (r ≡ s) × (x ≡ y)
qoa_decoder_next_item bs block = linked _ _ _ _

pub qoa_decoder_facts : (block : List ℕ) (bytes : ℕ) (facts : List ℕ) (r s : ℤ) (x y : List ℕ) → FactsLinked block bytes facts r x → FactsLinked block bytes facts s y → (r ≡ s) × (x ≡ y)
qoa_decoder_facts block bytes facts r s x y p q = (same p.answer q.answer, same p.told q.told)

pub qoa_decoder_seconds : (block : List ℕ) (bytes : ℕ) (r s : Float) → r ≡ coded_seconds (facts_on block bytes then λ f. good f.length) → s ≡ coded_seconds (facts_on block bytes then λ f. good f.length) → r ≡ s
qoa_decoder_seconds block bytes r s = same
