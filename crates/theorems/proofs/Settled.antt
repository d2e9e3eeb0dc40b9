-- Theorem 6: each public call has one answer. Any two answers that its contract permits are equal, what is left in lent memory is equal, and states that are
-- handed back have one view. A theorem for each call, in the order of README.md's table; the premises are the contract, twice. Assumes nothing.
use Prim.Native.Nat.{ℕ}
use mathlib.Core.Path.{◌≡◌, sym, ◌∙◌}
use mathlib.Core.List.{List}
use denote.Ref.{Bor}
use lib.Ieee.{Float}
use lib.IntN.{ℤ}
use lib.ListN.{length}
use Rattle.refusal.specs.Rules.{after, first_of, good, ◌then◌}
use Rattle.format.specs.Part.{part_length, part_of}
use Rattle.std.specs.Prelude.{Option, Result}
use Rattle.refusal.specs.Refusals.{number_of, told, told_refusal}
use Rattle.refusal.specs.declared.Done.{Done}
use Rattle.refusal.specs.declared.Summary.{Summary}
use Rattle.format.specs.declared.facts.Facts.{Facts}
use Rattle.state.specs.declared.FrameFacts.{FrameFacts}
use Rattle.decoder.specs.declared.QoaItem.{QoaItem}
use Rattle.reader.specs.declared.Read.{Read}
use Rattle.reader.specs.declared.places.At.{At}
use Rattle.encoder.specs.declared.EncodeRefusal.{EncodeRefusal}
use Rattle.refusal.specs.declared.Refusal.{Refusal}
use Rattle.refusal.proofs.Told.{told_lem}
use Rattle.state.specs.Facts.{facts_answer}
use Rattle.state.specs.Opening.{OpenLeaves, open_rules}
use Rattle.state.specs.View.{view}
use Rattle.state.specs.declared.QoaDecoder.{QoaDecoder}
use Rattle.state.proofs.Settled as S
use Rattle.into.specs.Into.{IntoDone}
use Rattle.frames.specs.Frames.{NextDone}
use Rattle.decoder.specs.Items.{ItemDone}
use Rattle.into.proofs.Settled as I
use Rattle.frames.proofs.Settled as F
use Rattle.decoder.proofs.Settled as D
use Rattle.file.specs.Whole.{audio_in, decode}
use Rattle.file.specs.Streaming.{streamed}
use Rattle.refusal.specs.Lent.{laid_over}
use Rattle.whole.specs.Told.{count_in, heard_in, summary_in}
use Rattle.reader.specs.Read.{FrameRead, IntoRead, ItemRead}
use Rattle.reader.specs.declared.FramePart.{FramePart}
use Rattle.reader.specs.declared.Reader.{Reader}
use Rattle.reader.proofs.Settled as R
use Rattle.encoder.specs.Encoder as E
use Rattle.encoder.specs.Calls.{CreateDone, FrameDone, head_memory, head_told, told_encode}
use Rattle.encoder.specs.declared.QoaEncoder.{QoaEncoder}
use Rattle.encoder.proofs.Settled.{create_settled, frame_settled, head_settled}
use Rattle.oneshot.specs.OneShot.{need_of, need_rules}
use Rattle.oneshot.specs.Shots as O
use Rattle.oneshot.proofs.Settled.{all_settled, need_settled, shot_settled}
use Rattle.codes.specs.Codes.{coded, coded_encode, coded_seconds}
use Rattle.qoa.specs.Coded.{channels_in, opened_facts, rate_in, sample_count}

-- two things that equal a third are equal
same : {A : Type 0} {x r s : A} → r ≡ x → s ≡ x → r ≡ s
same p q = p ∙ sym q

-- ---- the calls on a decoder

pub open_decoder : (bs : List ℕ) (r s : Done (Result Unit Refusal) QoaDecoder)
    → (told_refusal r.answer ≡ first_of (open_rules bs)) × OpenLeaves (first_of (open_rules bs)) bs r.state
    → (told_refusal s.answer ≡ first_of (open_rules bs)) × OpenLeaves (first_of (open_rules bs)) bs s.state
    → (r.answer ≡ s.answer) × (view r.state ≡ view s.state)
open_decoder bs r s = S.open_settled bs r.answer s.answer r.state s.state

pub facts_given : (d : QoaDecoder) (bs : List ℕ) (r s : Result Facts Refusal) → told r ≡ facts_answer (view d) (length bs) → told s ≡ facts_answer (view d) (length bs) → r ≡ s
facts_given d bs = S.facts_settled d (length bs)

pub decode_into : (bs : List ℕ) (d : QoaDecoder) (out : List ℤ) (r s : Done (Result ℕ Refusal) QoaDecoder) (x y : List ℤ) → IntoDone bs d out r x → IntoDone bs d out s y
    → (r.answer ≡ s.answer) × (view r.state ≡ view s.state) × (x ≡ y)
decode_into = I.decode_into_settled

pub next_frame : (bs : List ℕ) (d : QoaDecoder) (r s : Done (Result (Option FrameFacts) Refusal) QoaDecoder) → NextDone bs d r → NextDone bs d s → (r.answer ≡ s.answer) × (view r.state ≡ view s.state)
next_frame = F.next_frame_settled

pub next_item : (bs : List ℕ) (d : QoaDecoder) (r s : Done (Result (Option QoaItem) Refusal) QoaDecoder) → ItemDone bs d r → ItemDone bs d s → (r.answer ≡ s.answer) × (view r.state ≡ view s.state)
next_item = D.next_item_settled

-- ---- whole files, streaming frames, the frame part

pub decode_all : (bs : List ℕ) (out : List ℤ) (r s : Result Summary Refusal) (x y : List ℤ)
    → (told r ≡ summary_in (decode (length out) bs)) × (x ≡ laid_over out 0 (heard_in (decode (length out) bs)))
    → (told s ≡ summary_in (decode (length out) bs)) × (y ≡ laid_over out 0 (heard_in (decode (length out) bs)))
    → (r ≡ s) × (x ≡ y)
decode_all bs out r s x y p q = (told_lem r s (same p.0 q.0), same p.1 q.1)

pub decode_need : (bs : List ℕ) (r s : Result Summary Refusal) → told r ≡ summary_in (audio_in bs) → told s ≡ summary_in (audio_in bs) → r ≡ s
decode_need bs r s p q = told_lem r s (same p q)

pub decode_frames : (bs : List ℕ) (out : List ℤ) (r s : Result ℕ Refusal) (x y : List ℤ)
    → (told r ≡ count_in (streamed (length out) bs)) × (x ≡ laid_over out 0 (streamed (length out) bs))
    → (told s ≡ count_in (streamed (length out) bs)) × (y ≡ laid_over out 0 (streamed (length out) bs))
    → (r ≡ s) × (x ≡ y)
decode_frames bs out r s x y p q = (told_lem r s (same p.0 q.0), same p.1 q.1)

pub part_length_lem : (bs : List ℕ) (at : ℕ) (r s : Result ℕ Refusal) → told r ≡ part_length bs at → told s ≡ part_length bs at → r ≡ s
part_length_lem bs at r s p q = told_lem r s (same p q)

pub frame_part : (bs : List ℕ) (at : ℕ) (r s : List ℕ) → r ≡ part_of (part_length bs at) bs at → s ≡ part_of (part_length bs at) bs at → r ≡ s
frame_part bs at r s = same

-- ---- the calls on an encoder

pub new_encoder : (c rate total : ℕ) (r s : Done (Result Unit Refusal) QoaEncoder) → CreateDone c rate total r → CreateDone c rate total s → (r.answer ≡ s.answer) × (E.encoder_view r.state ≡ E.encoder_view s.state)
new_encoder = create_settled

pub write_header : (e : QoaEncoder) (out : List ℕ) (r s : Result ℕ EncodeRefusal) (x y : List ℕ)
    → (told_encode r ≡ head_told (E.encoder_view e) (length out)) × (x ≡ head_memory (E.encoder_view e) out)
    → (told_encode s ≡ head_told (E.encoder_view e) (length out)) × (y ≡ head_memory (E.encoder_view e) out)
    → (r ≡ s) × (x ≡ y)
write_header e = head_settled (E.encoder_view e)

pub encode_frame : (e : QoaEncoder) (samples : List ℤ) (out : List ℕ) (r s : Done (Result ℕ EncodeRefusal) QoaEncoder) (x y : List ℕ) → FrameDone e samples out r x → FrameDone e samples out s y
    → (r.answer ≡ s.answer) × (x ≡ y) × (E.encoder_view r.state ≡ E.encoder_view s.state)
encode_frame = frame_settled

pub encode : (e : QoaEncoder) (samples : List ℤ) (out : List ℕ) (r s : Done (Result ℕ EncodeRefusal) QoaEncoder) (x y : List ℕ) → O.ShotDone e samples out r x → O.ShotDone e samples out s y
    → (r.answer ≡ s.answer) × (x ≡ y) × (E.encoder_view r.state ≡ E.encoder_view s.state)
encode = shot_settled

pub encode_all : (c rate total : ℕ) (samples : List ℤ) (out : List ℕ) (r s : Result ℕ EncodeRefusal) (x y : List ℕ) → O.AllDone c rate total samples out r x → O.AllDone c rate total samples out s y
    → (r ≡ s) × (x ≡ y)
encode_all = all_settled

pub encode_need : (c total : ℕ) (r s : Result ℕ Refusal) → told r ≡ after (need_rules c total) (good (need_of c total)) → told s ≡ after (need_rules c total) (good (need_of c total)) → r ≡ s
encode_need = need_settled

-- ---- the refusal's number

pub number : (refusal : Refusal) (r s : ℕ) → r ≡ number_of refusal → s ≡ number_of refusal → r ≡ s
number refusal r s = same

-- ---- the functions of `reader`: the bytes that a reader holds are the caller's own

pub new_reader : (src : Bor (List ℕ)) (r s : Reader) → (r.src ≡ src) × (r.at ≡ 0) → (s.src ≡ src) × (s.at ≡ 0) → r ≡ s
new_reader = R.new_settled

pub moved_reader : (g : Reader) (at : ℕ) (r s : Reader) → (r.src ≡ g.src) × (r.at ≡ at) → (s.src ≡ g.src) × (s.at ≡ at) → r ≡ s
moved_reader = R.moved_settled

pub read_part : (g : Reader) (r s : FramePart)
    → (r.part.now ≡ part_of (part_length g.src.now g.at) g.src.now g.at) × (told r.answer ≡ part_length g.src.now g.at)
    → (s.part.now ≡ part_of (part_length g.src.now g.at) g.src.now g.at) × (told s.answer ≡ part_length g.src.now g.at)
    → (r.part.now ≡ s.part.now) × (r.answer ≡ s.answer)
read_part g = R.frame_part_settled g.src.now g.at

pub open_reader : (src : Bor (List ℕ)) (r s : Read Unit)
    → (r.reader.src ≡ src) × (r.reader.at ≡ r.done.state.at) × (told_refusal r.done.answer ≡ first_of (open_rules src.now)) × OpenLeaves (first_of (open_rules src.now)) src.now r.done.state
    → (s.reader.src ≡ src) × (s.reader.at ≡ s.done.state.at) × (told_refusal s.done.answer ≡ first_of (open_rules src.now)) × OpenLeaves (first_of (open_rules src.now)) src.now s.done.state
    → (r.reader ≡ s.reader) × (r.done.answer ≡ s.done.answer) × (view r.done.state ≡ view s.done.state)
open_reader = R.reader_open_settled

pub read_into : (g : Reader) (d : QoaDecoder) (out : List ℤ) (r s : Read ℕ) (x y : List ℤ)
    → (r.reader.src ≡ g.src) × IntoRead g.src.now g.at d out r.reader.at r.done x
    → (s.reader.src ≡ g.src) × IntoRead g.src.now g.at d out s.reader.at s.done y
    → (r.reader ≡ s.reader) × (r.done.answer ≡ s.done.answer) × (view r.done.state ≡ view s.done.state) × (x ≡ y)
read_into = R.decode_into_settled

pub read_frame : (g : Reader) (d : QoaDecoder) (r s : Read (Option FrameFacts))
    → (r.reader.src ≡ g.src) × FrameRead g.src.now g.at d r.reader.at r.done
    → (s.reader.src ≡ g.src) × FrameRead g.src.now g.at d s.reader.at s.done
    → (r.reader ≡ s.reader) × (r.done.answer ≡ s.done.answer) × (view r.done.state ≡ view s.done.state)
read_frame = R.next_frame_settled

pub read_item : (g : Reader) (d : QoaDecoder) (r s : Read (Option QoaItem))
    → (r.reader.src ≡ g.src) × ItemRead g.src.now g.at d r.reader.at r.done
    → (s.reader.src ≡ g.src) × ItemRead g.src.now g.at d s.reader.at s.done
    → (r.reader ≡ s.reader) × (r.done.answer ≡ s.done.answer) × (view r.done.state ≡ view s.done.state)
read_item = R.next_item_settled

pub decode_from : (bs : List ℕ) (at : ℕ) (d : QoaDecoder) (out : List ℤ) (r s : At ℕ) (x y : List ℤ)
    → IntoRead bs at d out r.at r.done x → IntoRead bs at d out s.at s.done y
    → (r.at ≡ s.at) × (r.done.answer ≡ s.done.answer) × (view r.done.state ≡ view s.done.state) × (x ≡ y)
decode_from = R.decode_from_settled

-- ---- the C functions: the answer is one number (qoa/specs/Coded)

pub qoa_decode_all : (bs : List ℕ) (out : List ℤ) (r s : ℤ) (x y : List ℤ)
    → (r ≡ coded (sample_count (decode (length out) bs))) × (x ≡ laid_over out 0 (heard_in (decode (length out) bs)))
    → (s ≡ coded (sample_count (decode (length out) bs))) × (y ≡ laid_over out 0 (heard_in (decode (length out) bs)))
    → (r ≡ s) × (x ≡ y)
qoa_decode_all bs out r s x y p q = (same p.0 q.0, same p.1 q.1)

pub qoa_decode_need : (bs : List ℕ) (r s : ℤ) → r ≡ coded (sample_count (audio_in bs)) → s ≡ coded (sample_count (audio_in bs)) → r ≡ s
qoa_decode_need bs r s = same

pub qoa_channels : (bs : List ℕ) (r s : ℤ) → r ≡ coded (channels_in (audio_in bs)) → s ≡ coded (channels_in (audio_in bs)) → r ≡ s
qoa_channels bs r s = same

pub qoa_rate : (bs : List ℕ) (r s : ℤ) → r ≡ coded (rate_in (audio_in bs)) → s ≡ coded (rate_in (audio_in bs)) → r ≡ s
qoa_rate bs r s = same

pub qoa_decode_frames : (bs : List ℕ) (out : List ℤ) (r s : ℤ) (x y : List ℤ)
    → (r ≡ coded (count_in (streamed (length out) bs))) × (x ≡ laid_over out 0 (streamed (length out) bs))
    → (s ≡ coded (count_in (streamed (length out) bs))) × (y ≡ laid_over out 0 (streamed (length out) bs))
    → (r ≡ s) × (x ≡ y)
qoa_decode_frames bs out r s x y p q = (same p.0 q.0, same p.1 q.1)

pub qoa_part_length : (bs : List ℕ) (at : ℕ) (r s : ℤ) → r ≡ coded (part_length bs at) → s ≡ coded (part_length bs at) → r ≡ s
qoa_part_length bs at r s = same

pub qoa_facts_total : (bs : List ℕ) (r s : ℤ) → r ≡ coded (opened_facts bs then λ f. good f.total) → s ≡ coded (opened_facts bs then λ f. good f.total) → r ≡ s
qoa_facts_total bs r s = same

pub qoa_facts_channels : (bs : List ℕ) (r s : ℤ) → r ≡ coded (opened_facts bs then λ f. good f.channels) → s ≡ coded (opened_facts bs then λ f. good f.channels) → r ≡ s
qoa_facts_channels bs r s = same

pub qoa_facts_rate : (bs : List ℕ) (r s : ℤ) → r ≡ coded (opened_facts bs then λ f. good f.rate) → s ≡ coded (opened_facts bs then λ f. good f.rate) → r ≡ s
qoa_facts_rate bs r s = same

pub qoa_facts_seconds : (bs : List ℕ) (r s : Float) → r ≡ coded_seconds (opened_facts bs then λ f. good f.length) → s ≡ coded_seconds (opened_facts bs then λ f. good f.length) → r ≡ s
qoa_facts_seconds bs r s = same

pub qoa_encode_all : (c rate total : ℕ) (samples : List ℤ) (out : List ℕ) (r s : ℤ) (x y : List ℕ)
    → (r ≡ coded_encode (O.shot_told (O.all_rules c rate total samples (length out)) (E.new_view c rate total) samples))
    × (x ≡ O.shot_memory (O.all_rules c rate total samples (length out)) (E.new_view c rate total) samples out)
    → (s ≡ coded_encode (O.shot_told (O.all_rules c rate total samples (length out)) (E.new_view c rate total) samples))
    × (y ≡ O.shot_memory (O.all_rules c rate total samples (length out)) (E.new_view c rate total) samples out)
    → (r ≡ s) × (x ≡ y)
qoa_encode_all c rate total samples out r s x y p q = (same p.0 q.0, same p.1 q.1)

pub qoa_encode_need : (c total : ℕ) (r s : ℤ) → r ≡ coded (after (need_rules c total) (good (need_of c total))) → s ≡ coded (after (need_rules c total) (good (need_of c total))) → r ≡ s
qoa_encode_need c total r s = same
