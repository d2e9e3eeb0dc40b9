-- What the decoder's calls do with a block's state is what they do with the block. Assumes nothing.
use Prim.Native.Nat.{ℕ, ◌≤◌, ◌<◌, min}
use mathlib.Core.Path.{◌≡◌, refl, sym, ap, ◌∙◌}
use mathlib.Core.Bool.{Bool, true, false, not, ◌&&◌}
use mathlib.Core.List.{List, [], ◌∷◌}
use mathlib.Core.Option.{Option, none, some}
use borrow.Author.Tests.{leb-false}
use native.Mathlib.Omega.{arith}
use lib.Dec.{leb, ltb}
use lib.IntN.{ℤ, pos}
use lib.ListN.{length, set}
use Rattle.refusal.specs.Rules.{Answer, Rule, after, first_of, good, refused, unless, ◌gives◌, ◌then◌}
use Rattle.word.specs.Bytes.{be16}
use Rattle.refusal.proofs.Rules.{after_refused, fires, fires_left, fires_right, good_same, none_fires, unless_good}
use Rattle.word.proofs.Tests.{tests}
use Rattle.format.specs.Format.{max_channels, pending_len}
use Rattle.format.specs.declared.facts.Facts.{Facts}
use Rattle.state.specs.Facts.{facts_for}
use Rattle.state.specs.Opening.{OpenLeaves, open_rules, opened_at}
use Rattle.state.specs.States.{good_state}
use Rattle.state.specs.View.{View, view}
use Rattle.state.specs.declared.QoaDecoder.{QoaDecoder}
use Rattle.word.proofs.Belows.{and_left, fails}
use Rattle.state.proofs.GoodStates.{good_facts}
use Rattle.into.specs.Left.{CallDone, Leaves}
use Rattle.refusal.specs.Refusals.{told}
use Rattle.refusal.specs.declared.Done.{Done}
use Rattle.refusal.specs.declared.Refusal.{Refusal}
use Rattle.std.specs.Prelude.{Result}
use Rattle.refusal.specs.Lent.{laid_over}
use Rattle.block.specs.DecoderBlock.{byte_in, decoder_bytes, decoder_in, decoder_size, frame_in, is_decoder}
use Rattle.block.specs.Parts.{readable_decoder}
use Rattle.codes.specs.Codes.{coded}
use Rattle.linked_decoder.specs.Linked.{DecodeLinked, FactsLinked, OpenLinked, blocked, facts_on, facts_rules, kept, opening_rules, three_facts}

-- ---- a block that can't be read

-- one test or the other fails
one_fails : (a b : Bool) → (a && b) ≡ false → a ≡ true → b ≡ false
one_fails true b e f = e
one_fails false b e f = let z : ◌≡◌ {A = ℕ} 0 1 = cc in absurd (omega arith)

either_fails : (a b : Bool) (X : Type 0) → (a && b) ≡ false → (a ≡ false → X) → (b ≡ false → X) → X
either_fails true b X e f g = g e
either_fails false b X e f g = f refl

-- then its state is bad
bad_state : (block : List ℕ) (bytes : ℕ) → is_decoder block ≡ true → readable_decoder block ≡ false → good_state (decoder_in block) bytes ≡ false
unfolding readable_decoder decoder_in frame_in
bad_state block bytes is e =
    let places = one_fails (is_decoder block) (leb (byte_in block 18) max_channels && leb (be16 block 29) pending_len) e is in
    fails _ (λ t.
    let g = good_facts (decoder_in block) bytes t in
    either_fails (leb (byte_in block 18) max_channels) (leb (be16 block 29) pending_len) _ places
    (λ many. let m = leb-false (byte_in block 18) max_channels many in let few = g.few_channels in absurd (omega arith))
    (λ far. let m = leb-false (be16 block 29) pending_len far in let few = g.few_channels in let held = g.one_group in absurd (omega arith)))

pub unread : (block : List ℕ) (bytes : ℕ) (rest : List Rule) → readable_decoder block ≡ false → first_of (blocked block ((not (good_state (decoder_in block) bytes) gives 8) ∷ rest)) ≡ some 8
unfolding first_of
unread block bytes rest e = by (is_decoder block) refl
  where
    by : (b : Bool) → is_decoder block ≡ b → first_of ((not b gives 8) ∷ (not (good_state (decoder_in block) bytes) gives 8) ∷ rest) ≡ some 8
    by true is = rw (bad_state block bytes is e)
    by false is = refl

-- ---- a block that is read

pub read_rules : (block : List ℕ) (rules : List Rule) → readable_decoder block ≡ true → first_of (blocked block rules) ≡ first_of rules
unfolding readable_decoder first_of
read_rules block rules e = rw (and_left (is_decoder block) (leb (byte_in block 18) max_channels && leb (be16 block 29) pending_len) e)

-- the state that a call leaves where no rule fires
pub leaves : (o : Option ℕ) (d : QoaDecoder) (v : View) (s : QoaDecoder) → o ≡ none → Leaves o d v s → view s ≡ v
leaves none d v s e l = l
leaves (some n) d v s e l = let z : ◌≡◌ {A = ℕ} 0 1 = cc in absurd (omega arith)

-- what an answer tells of the rules
pub accepted : {A : Type 0} (rules : List Rule) (x y : A) → good y ≡ after rules (good x) → (first_of rules ≡ none) × (x ≡ y)
accepted rules x y e =
    let found = unless_good (first_of rules) (good x) y (sym e) in
    (found.0, good_same x y found.1)

-- an accepted count is no more than the room
pub count_small : (rules : List Rule) (room most n : ℕ) → good n ≡ after rules (good (min room most)) → n ≤ room
count_small rules room most n e = let same = (accepted rules (min room most) n e).1 in omega arith

module _ (block : List ℕ) (rules : List Rule) (number : ℕ) (next : View) where
  pub linked_refused : (n : ℕ) (r : ℤ) → first_of (blocked block rules) ≡ some n → r ≡ coded (refused n) → DecodeLinked block rules number next r block
  unfolding laid_over
  linked_refused n r e code = record { answer = code ∙ rw e; state = rw e }

  pub linked_done : (r : ℤ) (block' : List ℕ) → first_of (blocked block rules) ≡ none → r ≡ pos number → block' ≡ laid_over block 0 (good (decoder_bytes next)) → DecodeLinked block rules number next r block'
  linked_done r block' e code kept = record { answer = code ∙ rw e; state = kept ∙ rw e }

-- ---- a call whose answer a number tells

module _ {A : Type 0} (block : List ℕ) (rules : List Rule) (x : A) (code_of : A → ℕ) (d : QoaDecoder) (next : View) (done : Done (Result A Refusal) QoaDecoder) (does : CallDone rules x d next done) where
  pub linked_kept : (tells : Answer ℕ) → tells ≡ (told done.answer then λ y. good (code_of y)) → readable_decoder block ≡ true → (r : ℤ) → r ≡ coded tells → (block' : List ℕ) → block' ≡ kept tells (view done.state) block
      → DecodeLinked block rules (code_of x) next r block'
  linked_kept tells same readable r code block' left = by (first_of rules) refl
    where
      said : (o : Option ℕ) → first_of rules ≡ o → tells ≡ (unless o (good x) then λ y. good (code_of y))
      said o e = same ∙ ap (λ (a : Answer A). a then λ y. good (code_of y)) (does.told ∙ ap (λ (p : Option ℕ). unless p (good x)) e)

      by : (o : Option ℕ) → first_of rules ≡ o → DecodeLinked block rules (code_of x) next r block'
      by none e =
          let s = said none e in
          linked_done block rules (code_of x) next r block' (read_rules block rules readable ∙ e) (code ∙ ap coded s)
          (left ∙ ap (λ (a : Answer ℕ). kept a (view done.state) block) s ∙ ap (λ (v : View). laid_over block 0 (good (decoder_bytes v))) (leaves (first_of rules) d next done.state e does.left))
      by (some n) e =
          let s = said (some n) e in
          let stays : block' ≡ block = left ∙ ap (λ (a : Answer ℕ). kept a (view done.state) block) s in
          rw stays (linked_refused block rules (code_of x) next n r (read_rules block rules readable ∙ e) (code ∙ ap coded s))

-- ---- opening

module _ (bs block : List ℕ) where
  pub open_refused : (n : ℕ) (r : ℤ) → first_of (opening_rules bs (length block)) ≡ some n → r ≡ coded (refused n) → OpenLinked bs block r block
  unfolding laid_over
  open_refused n r e code = record { answer = code ∙ rw e; state = rw e }

  pub open_done : (r : ℤ) (block' : List ℕ) → first_of (opening_rules bs (length block)) ≡ none → r ≡ pos 0 → block' ≡ laid_over block 0 (good (decoder_bytes (opened_at bs))) → OpenLinked bs block r block'
  open_done r block' e code kept = record { answer = code ∙ rw e; state = kept ∙ rw e }

  pub open_bad : (n : ℕ) → first_of (open_rules bs) ≡ some n → first_of (opening_rules bs (length block)) ≡ some n
  unfolding opening_rules
  open_bad n e = fires_left (open_rules bs) ((ltb (length block) decoder_size gives 7) ∷ []) n e

  pub open_short : first_of (open_rules bs) ≡ none → length block < decoder_size → first_of (opening_rules bs (length block)) ≡ some 7
  unfolding opening_rules
  open_short e short = fires_right (open_rules bs) ((ltb (length block) decoder_size gives 7) ∷ []) e ∙ fires 0 ((ltb (length block) decoder_size gives 7) ∷ []) 7 (omega (arith, tests))

  pub open_good : first_of (open_rules bs) ≡ none → decoder_size ≤ length block → first_of (opening_rules bs (length block)) ≡ none
  unfolding opening_rules
  open_good e room = fires_right (open_rules bs) ((ltb (length block) decoder_size gives 7) ∷ []) e ∙ none_fires ((ltb (length block) decoder_size gives 7) ∷ []) (omega (arith, tests))

-- ---- facts

module _ (block : List ℕ) (bytes : ℕ) (facts : List ℕ) where
  pub facts_refused : (n : ℕ) (r : ℤ) → first_of (facts_rules block bytes (length facts)) ≡ some n → r ≡ coded (refused n) → FactsLinked block bytes facts r facts
  unfolding laid_over
  facts_refused n r e code = record { answer = code ∙ rw e; told = rw e }

  pub facts_done : (r : ℤ) (facts' : List ℕ) → first_of (facts_rules block bytes (length facts)) ≡ none → r ≡ pos 0
      → facts' ≡ laid_over facts 0 (good (three_facts (facts_for (decoder_in block).mode (decoder_in block).frame))) → FactsLinked block bytes facts r facts'
  facts_done r facts' e code kept = record { answer = code ∙ rw e; told = kept ∙ rw e }

  -- the two rules of a state, and the room's behind them
  abbrev two : List Rule
  two = blocked block ((not (good_state (decoder_in block) bytes) gives 8) ∷ [])

  pub facts_bad : (n : ℕ) → refused n ≡ facts_on block bytes → first_of (facts_rules block bytes (length facts)) ≡ some n
  unfolding facts_on facts_rules
  facts_bad n e = fires_left two ((ltb (length facts) 3 gives 7) ∷ []) n (after_refused two _ n (sym e))

  pub facts_short : (f : Facts) → good f ≡ facts_on block bytes → length facts < 3 → first_of (facts_rules block bytes (length facts)) ≡ some 7
  unfolding facts_on facts_rules
  facts_short f e short = fires_right two ((ltb (length facts) 3 gives 7) ∷ []) (accepted two _ f e).0 ∙ fires 0 ((ltb (length facts) 3 gives 7) ∷ []) 7 (omega (arith, tests))

  pub facts_good : (f : Facts) → good f ≡ facts_on block bytes → 3 ≤ length facts → (first_of (facts_rules block bytes (length facts)) ≡ none) × (facts_for (decoder_in block).mode (decoder_in block).frame ≡ f)
  unfolding facts_on facts_rules
  facts_good f e room =
      let found = accepted two _ f e in
      (fires_right two ((ltb (length facts) 3 gives 7) ∷ []) found.0 ∙ none_fires ((ltb (length facts) 3 gives 7) ∷ []) (omega (arith, tests)), found.1)

-- three numbers stored at the start
pub three_put : (l : List ℕ) (a b c : ℕ) → 3 ≤ length l → set (set (set l 0 a) 1 b) 2 c ≡ laid_over l 0 (good (a ∷ b ∷ c ∷ []))
unfolding laid_over
three_put [] a b c h = absurd (omega arith)
three_put (x ∷ []) a b c h = absurd (omega arith)
three_put (x ∷ y ∷ []) a b c h = absurd (omega arith)
three_put (x ∷ y ∷ z ∷ l) a b c h = refl

-- the state of a file that opens
pub opened : (o : Option ℕ) (bs : List ℕ) (d : QoaDecoder) → o ≡ none → OpenLeaves o bs d → view d ≡ opened_at bs
opened none bs d e l = l
opened (some n) bs d e l = let z : ◌≡◌ {A = ℕ} 0 1 = cc in absurd (omega arith)
