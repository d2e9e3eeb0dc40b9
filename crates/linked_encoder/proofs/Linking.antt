-- What the encoder's calls do with a block's state is what they do with the block. Assumes nothing.
use Prim.Native.Nat.{ℕ, ◌<◌, ◌≤◌}
use mathlib.Core.Path.{◌≡◌, refl, sym, ap, ◌∙◌}
use mathlib.Core.Bool.{Bool, true, false, cond}
use mathlib.Core.List.{List, [], ◌∷◌}
use mathlib.Core.Option.{none, some}
use borrow.Author.Tests.{leb-false}
use native.Mathlib.Omega.{arith}
use lib.Dec.{leb, ltb}
use lib.IntN.{ℤ, pos}
use lib.ListN.{length}
use Rattle.refusal.specs.Rules.{good, first_of, refused, ◌gives◌}
use Rattle.refusal.proofs.Rules.{fires, fires_left, fires_right, none_fires}
use Rattle.word.proofs.Tests.{tests}
use Rattle.format.specs.Format.{max_channels}
use Rattle.word.proofs.Belows.{and_left, fails}
use Rattle.refusal.specs.Lent.{laid_over}
use Rattle.encoder.specs.Calls.{HandsBack, Told, frame_memory, frame_told, head_memory, head_told, refuses, refuses_14, wrote}
use Rattle.encoder.specs.Encoder.{EncoderView, create_rules, good_encoder, new_view, encoder_view}
use Rattle.encoder.specs.Frame.{encode_rules}
use Rattle.encoder.specs.Head.{head_rules}
use Rattle.encoder.specs.declared.QoaEncoder.{QoaEncoder}
use Rattle.encoder.proofs.Done.{bad_first}
use Rattle.encoder.proofs.GoodEncoders.{good_facts}
use Rattle.oneshot.specs.OneShot.{shot_rules}
use Rattle.oneshot.specs.Shots.{shot_memory, shot_told}
use Rattle.block.specs.DecoderBlock.{byte_in}
use Rattle.block.specs.EncoderBlock.{encoder_bytes, encoder_in, encoder_size, is_encoder}
use Rattle.block.specs.Parts.{readable_encoder}
use Rattle.codes.specs.Codes.{coded, coded_encode}
use Rattle.linked_encoder.specs.Linked.{EncodeLinked, HeadLinked, NewLinked, encoder_left, new_rules, out_left, told_by}

-- ---- a block that can't be read

-- a call that refuses a bad state by 8 and then leaves the output as it was
pub record Refusing (v : EncoderView) (told : Told) (memory out : List ℕ) : Type 0 where
  pub by_eight : good_encoder v ≡ false → told ≡ refuses 8
  pub untouched : good_encoder v ≡ false → memory ≡ out

pub head_refuses : (v : EncoderView) (out : List ℕ) → Refusing v (head_told v (length out)) (head_memory v out) out
unfolding head_rules laid_over
head_refuses v out = record { by_eight = λ e. rw (bad_first v _ e); untouched = λ e. rw (bad_first v _ e) }

pub frame_refuses : (v : EncoderView) (samples : List ℤ) (out : List ℕ) → Refusing v (frame_told v samples (length out)) (frame_memory v samples out) out
unfolding frame_told frame_memory encode_rules
frame_refuses v samples out = record { by_eight = λ e. rw (bad_first v _ e); untouched = λ e. rw (bad_first v _ e) }

pub file_refuses : (v : EncoderView) (samples : List ℤ) (out : List ℕ) → Refusing v (shot_told (shot_rules v samples (length out)) v samples) (shot_memory (shot_rules v samples (length out)) v samples out) out
unfolding shot_told shot_memory shot_rules
file_refuses v samples out = record { by_eight = λ e. rw (bad_first v _ e); untouched = λ e. rw (bad_first v _ e) }

-- then the block is none, or its state is bad
bad_state : (block : List ℕ) → is_encoder block ≡ true → readable_encoder block ≡ false → good_encoder (encoder_in block) ≡ false
unfolding readable_encoder encoder_in
bad_state block is e = fails _ (λ t.
    let g = good_facts (encoder_in block) t in
    let many = leb-false (byte_in block 0) max_channels (rw is at e) in
    absurd (omega arith))

module _ (block : List ℕ) (told : Told) (memory out : List ℕ) (refusing : Refusing (encoder_in block) told memory out) (e : readable_encoder block ≡ false) where
  unread_told : told_by block told ≡ refuses 8
  unread_told = by (is_encoder block) refl
    where
      by : (b : Bool) → is_encoder block ≡ b → cond b told (refuses 8) ≡ refuses 8
      by true is = refusing.by_eight (bad_state block is e)
      by false is = refl

  unread_out : out ≡ out_left block memory out
  unread_out = by (is_encoder block) refl
    where
      by : (b : Bool) → is_encoder block ≡ b → out ≡ cond b memory out
      by true is = sym (refusing.untouched (bad_state block is e))
      by false is = refl

  pub head_unread : (r : ℤ) → r ≡ coded_encode (refuses 8) → HeadLinked block told memory out r out
  head_unread r code = record { answer = code ∙ ap coded_encode (sym unread_told); bytes = unread_out }

  pub encode_unread : (next : EncoderView) (r : ℤ) → r ≡ coded_encode (refuses 8) → EncodeLinked block told next memory out r block out
  encode_unread next r code = record {
    answer = code ∙ ap coded_encode (sym unread_told);
    state = ap (λ (t : Told). encoder_left t next block) (sym unread_told);
    bytes = unread_out;
  }

-- ---- a block that is read

is_one : (block : List ℕ) → readable_encoder block ≡ true → is_encoder block ≡ true
unfolding readable_encoder
is_one block e = and_left (is_encoder block) (leb (byte_in block 0) max_channels) e

-- the state that is handed back is the next one
pub handed : (t : Told) (given back : QoaEncoder) (next : EncoderView) (block : List ℕ) → HandsBack t given next back → encoder_left t (encoder_view back) block ≡ encoder_left t next block
handed (wrote n) given back next block h = ap (λ (v : EncoderView). encoder_left (wrote n) v block) h
handed (refuses n) given back next block h = refl
handed (refuses_14 count channel) given back next block h = refl

module _ (block : List ℕ) (e : readable_encoder block ≡ true) (told : Told) (memory out : List ℕ) (r : ℤ) (code : r ≡ coded_encode told) where
  pub head_read : HeadLinked block told memory out r memory
  head_read = let is = is_one block e in record { answer = code ∙ rw is; bytes = rw is }

  pub encode_read : (given back : QoaEncoder) (next : EncoderView) (block' : List ℕ) → block' ≡ encoder_left told (encoder_view back) block → HandsBack told given next back → EncodeLinked block told next memory out r block' memory
  encode_read given back next block' kept h =
      let is = is_one block e in
      record { answer = code ∙ rw is; state = kept ∙ handed told given back next block h ∙ rw is; bytes = rw is }

-- ---- creation

module _ (c rate total : ℕ) (block : List ℕ) where
  pub new_refused : (n : ℕ) (r : ℤ) → first_of (new_rules c rate total (length block)) ≡ some n → r ≡ coded (refused n) → NewLinked c rate total block r block
  unfolding laid_over
  new_refused n r e code = record { answer = code ∙ rw e; state = rw e }

  pub new_done : (r : ℤ) (block' : List ℕ) → first_of (new_rules c rate total (length block)) ≡ none → r ≡ pos 0 → block' ≡ laid_over block 0 (good (encoder_bytes (new_view c rate total))) → NewLinked c rate total block r block'
  new_done r block' e code kept = record { answer = code ∙ rw e; state = kept ∙ rw e }

  -- refused by the numbers, or by the room
  pub new_bad : (n : ℕ) → first_of (create_rules c rate total) ≡ some n → first_of (new_rules c rate total (length block)) ≡ some n
  new_bad n e = fires_left (create_rules c rate total) ((ltb (length block) encoder_size gives 7) ∷ []) n e

  pub new_short : first_of (create_rules c rate total) ≡ none → length block < encoder_size → first_of (new_rules c rate total (length block)) ≡ some 7
  new_short e short = fires_right (create_rules c rate total) ((ltb (length block) encoder_size gives 7) ∷ []) e ∙ fires 0 ((ltb (length block) encoder_size gives 7) ∷ []) 7 (omega (arith, tests))

  pub new_good : first_of (create_rules c rate total) ≡ none → encoder_size ≤ length block → first_of (new_rules c rate total (length block)) ≡ none
  new_good e room = fires_right (create_rules c rate total) ((ltb (length block) encoder_size gives 7) ∷ []) e ∙ none_fires ((ltb (length block) encoder_size gives 7) ∷ []) (omega (arith, tests))
