-- The calls on a decoder at a reader's place, by the definitions of the decoder's own calls. Assumes nothing.
use Rattle.std.specs.Prelude.{ℕ, ◌≡◌, List, ℤ, Option, Result, length}
use mathlib.Core.Option.{Option as Option', none, some}
use Rattle.refusal.specs.Rules.{Rule, good, after, first_of}
use Rattle.refusal.specs.Lent.{laid_over}
use Rattle.word.specs.Table.{table}
use Rattle.state.specs.View.{View, view}
use Rattle.state.specs.declared.QoaDecoder.{QoaDecoder}
use Rattle.into.specs.Into.{coming_at, into_after, into_count, into_rules}
use Rattle.frames.specs.Frames.{next_after, next_found, next_rules}
use Rattle.decoder.specs.Items.{item_after, item_of, item_rules}
use Rattle.refusal.specs.declared.Done.{Done}
use Rattle.refusal.specs.declared.Refusal.{Refusal}
use Rattle.state.specs.declared.FrameFacts.{FrameFacts}
use Rattle.decoder.specs.declared.QoaItem.{QoaItem}
use Rattle.refusal.specs.Refusals.{told}

-- the same state, with its place set
unfoldable pub placed : ℕ → QoaDecoder → QoaDecoder
placed at d = record {
  mode = d.mode;
  at = at;
  frame = d.frame;
  remaining = d.remaining;
  next = d.next;
  end = d.end;
  given = d.given;
  lms = d.lms;
  pending = d.pending;
}

-- the reader's place is the place
abbrev pub there : ℕ → QoaDecoder → View
there at d = view (placed at d)

-- the place and the state that a call hands back: as given on a refusal, else those of the view that the call defines
abbrev pub Handed : Option' ℕ → ℕ → QoaDecoder → View → ℕ → QoaDecoder → Type 0
Handed none at d v at' after = (at' ≡ v.at) × (view after ≡ v)
Handed (some n) at d v at' after = (at' ≡ at) × (after ≡ d)

-- what a call promises of the place and the state d, by its order of refusals, its value and the view that it leaves: its answer, the place and the state that it hands back
pub record HandedDone {A : Type 0} (rules : List Rule) (x : A) (at : ℕ) (d : QoaDecoder) (v : View) (at' : ℕ) (r : Done (Result A Refusal) QoaDecoder) : Type 0 where
  pub told : told r.answer ≡ after rules (good x)
  pub left : Handed (first_of rules) at d v at' r.state

-- the same of lent memory too
pub record IntoRead (bs : List ℕ) (at : ℕ) (d : QoaDecoder) (out : List ℤ) (at' : ℕ) (r : Done (Result ℕ Refusal) QoaDecoder) (out' : List ℤ) : Type 0 where
  pub call : HandedDone (into_rules bs (there at d) (length out)) (into_count (there at d) (length out)) at d (into_after bs (there at d) (length out)) at' r
  pub stored : out' ≡ laid_over out 0 (after (into_rules bs (there at d) (length out)) (good (table (into_count (there at d) (length out)) (coming_at bs (there at d)))))

abbrev pub FrameRead : List ℕ → ℕ → QoaDecoder → ℕ → Done (Result (Option FrameFacts) Refusal) QoaDecoder → Type 0
FrameRead bs at d at' r = HandedDone (next_rules bs (there at d)) (next_found bs (there at d)) at d (next_after bs (there at d)) at' r

abbrev pub ItemRead : List ℕ → ℕ → QoaDecoder → ℕ → Done (Result (Option QoaItem) Refusal) QoaDecoder → Type 0
ItemRead bs at d at' r = HandedDone (item_rules bs (there at d)) (item_of bs (there at d)) at d (item_after bs (there at d)) at' r
