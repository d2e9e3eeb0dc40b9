-- The decoder's calls on a block: the answer, and the block and other lent memory after them. Assumes nothing.
use Rattle.std.specs.Prelude.{ℕ, ◌≡◌, not, List, [], ◌∷◌, ◌++◌, ltb, ℤ, length}
use Rattle.refusal.specs.Rules.{Answer, Rule, after, good, refused, ◌gives◌}
use Rattle.word.specs.Table.{table}
use Rattle.format.specs.declared.facts.Facts.{Facts}
use Rattle.state.specs.Facts.{facts_for}
use Rattle.state.specs.Opening.{open_rules, opened_at}
use Rattle.state.specs.States.{good_state}
use Rattle.state.specs.View.{View}
use Rattle.frames.specs.Frames.{next_after, next_found, next_rules}
use Rattle.into.specs.Into.{coming_at, into_after, into_count, into_rules}
use Rattle.decoder.specs.Items.{item_after, item_of, item_rules}
use Rattle.refusal.specs.Lent.{laid_over}
use Rattle.block.specs.DecoderBlock.{decoder_bytes, decoder_in, decoder_size, is_decoder}
use Rattle.codes.specs.Codes.{coded}
use Rattle.linked_decoder.specs.Numbers.{found_code, item_code}

-- 8 where the block is no state, then a call's own rules
abbrev pub blocked : List ℕ → List Rule → List Rule
blocked block rules = (not (is_decoder block) gives 8) ∷ rules

-- the block after a call with such rules: as it was on a refusal, else the next state's at its start
abbrev pub decoder_left : List Rule → View → List ℕ → List ℕ
decoder_left rules next block = laid_over block 0 (after rules (good (decoder_bytes next)))

-- the same by what the call tells: on a refusal as it was, else a state's
abbrev pub kept : Answer ℕ → View → List ℕ → List ℕ
kept (good n) v block = laid_over block 0 (good (decoder_bytes v))
kept (refused n) v block = block

-- a call with such rules, which answers with a number and after which the state goes on
pub record DecodeLinked (block : List ℕ) (rules : List Rule) (number : ℕ) (next : View) (r : ℤ) (block' : List ℕ) : Type 0 where
  pub answer : r ≡ coded (after (blocked block rules) (good number))
  pub state : block' ≡ decoder_left (blocked block rules) next block

-- ---- samples into lent memory, the next frame, the next item

pub record IntoLinked (bs block : List ℕ) (out : List ℤ) (r : ℤ) (block' : List ℕ) (out' : List ℤ) : Type 0 where
  pub call : DecodeLinked block (into_rules bs (decoder_in block) (length out)) (into_count (decoder_in block) (length out)) (into_after bs (decoder_in block) (length out)) r block'
  pub samples : out' ≡ laid_over out 0 (after (blocked block (into_rules bs (decoder_in block) (length out))) (good (table (into_count (decoder_in block) (length out)) (coming_at bs (decoder_in block)))))

abbrev pub NextLinked : List ℕ → List ℕ → ℤ → List ℕ → Type 0
NextLinked bs block r block' = DecodeLinked block (next_rules bs (decoder_in block)) (found_code (next_found bs (decoder_in block))) (next_after bs (decoder_in block)) r block'

abbrev pub ItemLinked : List ℕ → List ℕ → ℤ → List ℕ → Type 0
ItemLinked bs block r block' = DecodeLinked block (item_rules bs (decoder_in block)) (item_code (item_of bs (decoder_in block))) (item_after bs (decoder_in block)) r block'

-- ---- opening: the file's refusals; 7 where the block is too short

unfoldable pub opening_rules : List ℕ → ℕ → List Rule
opening_rules bs room = open_rules bs ++ ((ltb room decoder_size gives 7) ∷ [])

pub record OpenLinked (bs block : List ℕ) (r : ℤ) (block' : List ℕ) : Type 0 where
  pub answer : r ≡ coded (after (opening_rules bs (length block)) (good 0))
  pub state : block' ≡ decoder_left (opening_rules bs (length block)) (opened_at bs) block

-- ---- facts: 8; 7 where there is no room for three numbers

unfoldable pub facts_on : List ℕ → ℕ → Answer Facts
facts_on block bytes = after (blocked block ((not (good_state (decoder_in block) bytes) gives 8) ∷ [])) (good (facts_for (decoder_in block).mode (decoder_in block).frame))

unfoldable pub facts_rules : List ℕ → ℕ → ℕ → List Rule
facts_rules block bytes room = blocked block ((not (good_state (decoder_in block) bytes) gives 8) ∷ (ltb room 3 gives 7) ∷ [])

abbrev pub three_facts : Facts → List ℕ
three_facts f = f.total ∷ f.channels ∷ f.rate ∷ []

pub record FactsLinked (block : List ℕ) (bytes : ℕ) (facts : List ℕ) (r : ℤ) (facts' : List ℕ) : Type 0 where
  pub answer : r ≡ coded (after (facts_rules block bytes (length facts)) (good 0))
  pub told : facts' ≡ laid_over facts 0 (after (facts_rules block bytes (length facts)) (good (three_facts (facts_for (decoder_in block).mode (decoder_in block).frame))))
