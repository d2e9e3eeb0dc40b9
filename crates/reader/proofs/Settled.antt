-- Each contract settles its call: any two answers that it permits are equal, with states of one view; and on a refusal the reader and the state are as they were given. Assumes nothing.
use mathlib.Core.Path.{◌≡◌, ap, sym, ◌∙◌}
use mathlib.Core.List.{List}
use mathlib.Core.Option.{Option, none, some}
use Prim.Native.Nat.{ℕ}
use denote.Ref.{Bor}
use lib.IntN.{ℤ}
use lib.ListN.{length}
use Rattle.refusal.specs.Rules.{Rule, first_of, good, refused, unless}
use Rattle.refusal.proofs.Rules.{never}
use Rattle.format.specs.Part.{part_length, part_of}
use Rattle.refusal.specs.Refusals.{number_of, told, told_refusal}
use Rattle.refusal.specs.declared.Refusal.{Refusal}
use Rattle.refusal.proofs.Told.{told_lem}
use Rattle.state.specs.Opening.{OpenLeaves, open_rules}
use Rattle.state.specs.View.{View, view}
use Rattle.state.specs.declared.QoaDecoder.{QoaDecoder}
use Rattle.state.proofs.Settled.{open_settled}
use Rattle.into.specs.Into.{into_after, into_count, into_rules}
use Rattle.frames.specs.Frames.{next_after, next_found, next_rules}
use Rattle.decoder.specs.Items.{item_after, item_of, item_rules}
use Rattle.refusal.specs.declared.Done.{Done}
use Rattle.state.specs.declared.FrameFacts.{FrameFacts}
use Rattle.decoder.specs.declared.QoaItem.{QoaItem}
use Rattle.std.specs.Prelude.{Option as Maybe, Result, Err}
use Rattle.reader.specs.Read.{FrameRead, Handed, HandedDone, IntoRead, ItemRead, there}
use Rattle.reader.specs.declared.FramePart.{FramePart}
use Rattle.reader.specs.declared.Read.{Read}
use Rattle.reader.specs.declared.Reader.{Reader}
use Rattle.reader.specs.declared.places.At.{At}

-- ---- the parts of an answer

-- two readers of the same bytes at the same place
same_reader : (r s : Reader) (src : Bor (List ℕ)) → r.src ≡ src → s.src ≡ src → r.at ≡ s.at → r ≡ s
same_reader r s src p q e = λ i. record { src = (p ∙ sym q) i; at = e i }

handed_one : (o : Option ℕ) (at : ℕ) (d : QoaDecoder) (v : View) (m n : ℕ) (a b : QoaDecoder) → Handed o at d v m a → Handed o at d v n b → (m ≡ n) × (view a ≡ view b)
handed_one none at d v m n a b p q = (p.0 ∙ sym q.0, p.1 ∙ sym q.1)
handed_one (some k) at d v m n a b p q = (p.0 ∙ sym q.0, ap view (p.1 ∙ sym q.1))

-- two readers and states that one call hands back
read_one : (o : Option ℕ) (g : Reader) (d : QoaDecoder) (v : View) (r s : Reader) (a b : QoaDecoder) → r.src ≡ g.src → s.src ≡ g.src
    → Handed o g.at d v r.at a → Handed o g.at d v s.at b → (r ≡ s) × (view a ≡ view b)
read_one o g d v r s a b p q x y = let one = handed_one o g.at d v r.at s.at a b x y in (same_reader r s g.src p q one.0, one.1)

given : {A : Type 0} (o : Option ℕ) (at : ℕ) (d : QoaDecoder) (v : View) (x : A) (n m : ℕ) (a : QoaDecoder) → refused n ≡ unless o (good x) → Handed o at d v m a → (m ≡ at) × (a ≡ d)
given none at d v x n m a e p = never x n (sym e)
given (some k) at d v x n m a e p = p

module _ {A : Type 0} (rules : List Rule) (x : A) (d : QoaDecoder) (v : View) where
  -- two answers that a call's promise permits, at one place
  handed_settled : (at m n : ℕ) (r s : Done (Result A Refusal) QoaDecoder) → HandedDone rules x at d v m r → HandedDone rules x at d v n s
      → (m ≡ n) × (r.answer ≡ s.answer) × (view r.state ≡ view s.state)
  handed_settled at m n r s p q =
      let one = handed_one (first_of rules) at d v m n r.state s.state p.left q.left in
      (one.0, told_lem r.answer s.answer (p.told ∙ sym q.told), one.1)

  -- the same of readers
  read_settled : (g : Reader) (r s : Read A) → (r.reader.src ≡ g.src) × HandedDone rules x g.at d v r.reader.at r.done → (s.reader.src ≡ g.src) × HandedDone rules x g.at d v s.reader.at s.done
      → (r.reader ≡ s.reader) × (r.done.answer ≡ s.done.answer) × (view r.done.state ≡ view s.done.state)
  read_settled g r s p q =
      let one = read_one (first_of rules) g d v r.reader s.reader r.done.state s.done.state p.0 q.0 p.1.left q.1.left in
      (one.0, told_lem r.done.answer s.done.answer (p.1.told ∙ sym q.1.told), one.1)

  -- a refusal hands back place and state as given
  as_given : (at m : ℕ) (e : Refusal) (r : Done (Result A Refusal) QoaDecoder) → HandedDone rules x at d v m r → r.answer ≡ Err e → (m ≡ at) × (r.state ≡ d)
  as_given at m e r p f = given (first_of rules) at d v x (number_of e) m r.state (sym (ap told f) ∙ p.told) p.left

-- ---- the reader itself, the frame part, opening

pub new_settled : (src : Bor (List ℕ)) (r s : Reader) → (r.src ≡ src) × (r.at ≡ 0) → (s.src ≡ src) × (s.at ≡ 0) → r ≡ s
new_settled src r s p q = same_reader r s src p.0 q.0 (p.1 ∙ sym q.1)

pub moved_settled : (g : Reader) (at : ℕ) (r s : Reader) → (r.src ≡ g.src) × (r.at ≡ at) → (s.src ≡ g.src) × (s.at ≡ at) → r ≡ s
moved_settled g at r s p q = same_reader r s g.src p.0 q.0 (p.1 ∙ sym q.1)

abbrev PartDone : List ℕ → ℕ → FramePart → Type 0
PartDone bs at p = (p.part.now ≡ part_of (part_length bs at) bs at) × (told p.answer ≡ part_length bs at)

pub frame_part_settled : (bs : List ℕ) (at : ℕ) (p q : FramePart) → PartDone bs at p → PartDone bs at q → (p.part.now ≡ q.part.now) × (p.answer ≡ q.answer)
frame_part_settled bs at p q x y = (x.0 ∙ sym y.0, told_lem p.answer q.answer (x.1 ∙ sym y.1))

abbrev OpenDone : Bor (List ℕ) → Read Unit → Type 0
OpenDone src g =
    (g.reader.src ≡ src)
    × (g.reader.at ≡ g.done.state.at)
    × (told_refusal g.done.answer ≡ first_of (open_rules src.now))
    × OpenLeaves (first_of (open_rules src.now)) src.now g.done.state

-- the place of a state is in its view
place_one : (a b : QoaDecoder) → view a ≡ view b → a.at ≡ b.at
unfolding view
place_one a b e = ap (λ (v : View). v.at) e

pub reader_open_settled : (src : Bor (List ℕ)) (r s : Read Unit) → OpenDone src r → OpenDone src s → (r.reader ≡ s.reader) × (r.done.answer ≡ s.done.answer) × (view r.done.state ≡ view s.done.state)
reader_open_settled src r s x y =
    let one = open_settled src.now r.done.answer s.done.answer r.done.state s.done.state (x.2, x.3) (y.2, y.3) in
    (same_reader r.reader s.reader src x.0 y.0 (x.1 ∙ place_one r.done.state s.done.state one.1 ∙ sym y.1), one.0, one.1)

-- ---- decode_into

module _ (bs : List ℕ) (at : ℕ) (d : QoaDecoder) (out : List ℤ) where
  pub decode_from_settled : (r s : At ℕ) (o p : List ℤ) → IntoRead bs at d out r.at r.done o → IntoRead bs at d out s.at s.done p
      → (r.at ≡ s.at) × (r.done.answer ≡ s.done.answer) × (view r.done.state ≡ view s.done.state) × (o ≡ p)
  decode_from_settled r s o p x y =
      let one = handed_settled (into_rules bs (there at d) (length out)) (into_count (there at d) (length out)) d (into_after bs (there at d) (length out)) at r.at s.at r.done s.done x.call y.call in
      (one.0, one.1, one.2, x.stored ∙ sym y.stored)

  pub into_refused : (e : Refusal) (m : ℕ) (r : Done (Result ℕ Refusal) QoaDecoder) (o : List ℤ) → IntoRead bs at d out m r o → r.answer ≡ Err e → (m ≡ at) × (r.state ≡ d)
  into_refused e m r o x f = as_given (into_rules bs (there at d) (length out)) (into_count (there at d) (length out)) d (into_after bs (there at d) (length out)) at m e r x.call f

pub decode_into_settled : (g : Reader) (d : QoaDecoder) (out : List ℤ) (r s : Read ℕ) (o p : List ℤ)
    → (r.reader.src ≡ g.src) × IntoRead g.src.now g.at d out r.reader.at r.done o
    → (s.reader.src ≡ g.src) × IntoRead g.src.now g.at d out s.reader.at s.done p
    → (r.reader ≡ s.reader) × (r.done.answer ≡ s.done.answer) × (view r.done.state ≡ view s.done.state) × (o ≡ p)
decode_into_settled g d out r s o p x y =
    let here = there g.at d in
    let one = read_settled (into_rules g.src.now here (length out)) (into_count here (length out)) d (into_after g.src.now here (length out)) g r s (x.0, x.1.call) (y.0, y.1.call) in
    (one.0, one.1, one.2, x.1.stored ∙ sym y.1.stored)

-- ---- next_frame

pub frame_refused : (bs : List ℕ) (at : ℕ) (d : QoaDecoder) (e : Refusal) (m : ℕ) (r : Done (Result (Maybe FrameFacts) Refusal) QoaDecoder) → FrameRead bs at d m r → r.answer ≡ Err e → (m ≡ at) × (r.state ≡ d)
frame_refused bs at d e m r x f = as_given (next_rules bs (there at d)) (next_found bs (there at d)) d (next_after bs (there at d)) at m e r x f

pub next_frame_settled : (g : Reader) (d : QoaDecoder) (r s : Read (Maybe FrameFacts))
    → (r.reader.src ≡ g.src) × FrameRead g.src.now g.at d r.reader.at r.done → (s.reader.src ≡ g.src) × FrameRead g.src.now g.at d s.reader.at s.done
    → (r.reader ≡ s.reader) × (r.done.answer ≡ s.done.answer) × (view r.done.state ≡ view s.done.state)
next_frame_settled g d r s x y = let here = there g.at d in read_settled (next_rules g.src.now here) (next_found g.src.now here) d (next_after g.src.now here) g r s x y

-- ---- the item step

pub item_refused : (bs : List ℕ) (at : ℕ) (d : QoaDecoder) (e : Refusal) (m : ℕ) (r : Done (Result (Maybe QoaItem) Refusal) QoaDecoder) → ItemRead bs at d m r → r.answer ≡ Err e → (m ≡ at) × (r.state ≡ d)
item_refused bs at d e m r x f = as_given (item_rules bs (there at d)) (item_of bs (there at d)) d (item_after bs (there at d)) at m e r x f

pub next_item_settled : (g : Reader) (d : QoaDecoder) (r s : Read (Maybe QoaItem))
    → (r.reader.src ≡ g.src) × ItemRead g.src.now g.at d r.reader.at r.done → (s.reader.src ≡ g.src) × ItemRead g.src.now g.at d s.reader.at s.done
    → (r.reader ≡ s.reader) × (r.done.answer ≡ s.done.answer) × (view r.done.state ≡ view s.done.state)
next_item_settled g d r s x y = let here = there g.at d in read_settled (item_rules g.src.now here) (item_of g.src.now here) d (item_after g.src.now here) g r s x y
