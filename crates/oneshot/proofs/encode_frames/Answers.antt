-- `oneshot::encode_frames` meets its contract. Assumes nothing.
use mathlib.Core.Path.{◌≡◌, refl, ap, sym, ◌∙◌}
use mathlib.Core.Logic.{inl}
use mathlib.Core.Option.{none}
use mathlib.Core.List.{List}
use Prim.Native.Nat.{ℕ, suc, ◌+◌, ◌*◌, ◌^◌, ◌≤◌, ◌<◌}
use native.Mathlib.Nat.{le_refl, mul-le-mul}
use native.Mathlib.Numerals.{add-one}
use native.Mathlib.Omega.{arith}
use lib.ListN.{length}
use Rattle.std.proofs.lemmas.List.{length_push}
use Rattle.format.specs.Format.{frame_len, max_channels}
use Rattle.encoder.specs.Encoder.{encoder_view}
use Rattle.encoder.specs.Frame.{first_wide}
use Rattle.encoder.specs.Head.{head_bytes}
use Rattle.encoder.specs.Calls.{Told, refuses_14, told_encode, wrote}
use Rattle.encoder.specs.Parts.{told_wide}
use Rattle.encoder.proofs.Heads.{length_head}
use Rattle.oneshot.specs.OneShot.{Stop, state_before, bytes_before, chunk, frames_in, frames_of, need_of, stop_in}
use Rattle.refusal.specs.Rules.{good}
use Rattle.refusal.specs.Lent.{laid_over}
use Rattle.refusal.proofs.Lents.{length_over, over_again}
use Rattle.oneshot.specs.Parts.{frame_place}
use Rattle.oneshot.proofs.Ends.{Shot, shot_done, shot_fits, shot_wide}
use Rattle.oneshot.proofs.Files.{all_frames, before_small, chunk_fits, chunk_over, chunk_room, frame_there, length_before, place_before, stop_here, stop_more, stop_stays, view_next, wide_now}
use Rattle.oneshot.proofs.Turns.{AtTurn, first_turn, turn, turned}
use Rattle.oneshot.proofs.encode_frames.Goals as goal
use Rattle.oneshot.proofs.encode_frames.Goals.{After-first_wide, At-loop-f, In-Some, In_default, Start}

-- what the rules leave
shot : (s : Start) → Shot (encoder_view s.args.e) s.args.samples.now (length s.args.out.now)
shot s = shot_fits _ _ _ s.requires

eight : (s : Start) → 8 ≤ length s.args.out.now
unfolding need_of
eight s = omega (arith, (shot s).enough)

few : (s : Start) → s.args.e.channels ≤ max_channels
unfolding encoder_view
few s = (shot s).good_state.few_channels

some_channels : (s : Start) → 0 < s.args.e.channels
unfolding encoder_view
some_channels s = (shot s).good_state.some_channels

-- `out` against the output that was lent
memory : (l : At-loop-f) → Shot (encoder_view l.args.e) l.args.samples.now (length l.args.out.now) → l.loop-f.out ≡ laid_over l.args.out.now 0 (good (bytes_before (encoder_view l.args.e) l.args.samples.now (length l.loop-f.yielded)))
unfolding encoder_view
memory l h =
    let v = encoder_view l.args.e in
    let head = head_bytes l.args.e.total in
    let bytes = bytes_before v l.args.samples.now (length l.loop-f.yielded) in
    let long = length_before v l.args.samples.now h.good_state.some_channels h.long (length l.loop-f.yielded) l.loop-f.invariant.few in
    l.loop-f.invariant.bytes
    ∙ ap (λ (o : List ℕ). laid_over o 0 (good bytes)) l.put_head.ensures
    ∙ over_again l.args.out.now head bytes (omega (arith, length_head l.args.e.total, long))

long : (l : At-loop-f) → Shot (encoder_view l.args.e) l.args.samples.now (length l.args.out.now) → length l.loop-f.out ≡ length l.args.out.now
long l h =
    ap length (memory l h) ∙ length_over l.args.out.now 0 (bytes_before (encoder_view l.args.e) l.args.samples.now (length l.loop-f.yielded)) (omega (arith, h.enough, before_small (encoder_view l.args.e) l.args.samples.now h.good_state.some_channels h.long (length l.loop-f.yielded) l.loop-f.invariant.few))

-- the frame of this turn
now : (c : In-Some) →
    let args = c.args in
    let n = length c.loop-f.yielded in
    (c.in-Some.f ≡ n) × (c.in-Some.frame.now ≡ chunk args.e.channels args.samples.now n) × (frame_len * args.e.channels * n < length args.samples.now) × AtTurn (frame_len * args.e.channels) args.samples.now (n + 1) c.next.new.self
unfolding chunk
now c = turn (frame_len * c.args.e.channels) c.args.samples.now (length c.loop-f.yielded) c.loop-f.f-iterator c.next.new.self c.loop-f.invariant.turn c.in-Some.f c.in-Some.frame c.in-Some.ensures.steps

-- there is one
below : (c : In-Some) → length c.loop-f.yielded < frames_of (encoder_view c.args.e)
unfolding encoder_view
below c =
    let h = shot (goal.at.In-Some c).Start in
    frame_there (encoder_view c.args.e) c.args.samples.now h.good_state.some_channels h.long (length c.loop-f.yielded) (now c).2

-- the first wide channel, as the definitions have it
said : (c : After-first_wide) → let v = encoder_view c.args.e in told_wide c.first_wide.result ≡ first_wide v.channels (state_before v c.args.samples.now (length c.loop-f.yielded)).lms
unfolding encoder_view
said c =
    let p = goal.at.After-first_wide c in
    let h = shot p.Start in
    c.first_wide.ensures ∙ wide_now (encoder_view c.args.e) c.args.samples.now h.good_state.some_channels h.long h.good_state c.loop-f.state (length c.loop-f.yielded) c.loop-f.invariant.state (below p.In-Some)

-- no channel is too wide
narrow : (c : In_default) → let v = encoder_view c.args.e in first_wide v.channels (state_before v c.args.samples.now (length c.loop-f.yielded)).lms ≡ none
narrow c = sym (said (goal.at.In_default c).After-first_wide) ∙ ap told_wide c.in_default.is

pub put_head-requires : goal.put_head-requires
put_head-requires c = eight (goal.at.put_head-requires c).Start

pub chunks-requires : goal.chunks-requires
chunks-requires c = omega (arith, some_channels (goal.at.chunks-requires c).Start)

pub loop-f-init : goal.loop-f-init
unfolding state_before bytes_before stop_in encoder_view
loop-f-init c =
    let frames = c.into_iter-f-iterator.ensures.into_iter_gives in
    let bytes = head_bytes c.args.e.total in
    record {
      few = omega arith;
      turn = first_turn (frame_len * c.args.e.channels) c.args.samples.now c.into_iter-f-iterator.result c.chunks.result (rw frames c.enumerate-f-items.ensures.source) (rw frames c.enumerate-f-items.ensures.count) c.chunks.ensures.rest c.chunks.ensures.size;
      state = refl;
      narrow = refl;
      bytes = rw c.put_head.ensures (sym (over_again c.args.out.now bytes bytes (le_refl _)));
    }

pub loop-f-init-derived : goal.loop-f-init-derived
unfolding encoder_view
loop-f-init-derived c =
    let frames = c.into_iter-f-iterator.ensures.into_iter_gives in
    let start = (goal.at.loop-f-init-derived c).Start in
    let long : length c.args.samples.now ≤ 2 ^ 32 * 2 ^ 8 = rw (shot start).long (mul-le-mul {n₂ = 2 ^ 32} {m₂ = 2 ^ 8} (omega arith) (omega arith)) in (
      (
        rw (frames, c.enumerate-f-items.ensures.source, c.chunks.ensures.size) (omega (arith, some_channels start)),
        tt,
        inl (rw (frames, c.enumerate-f-items.ensures.count, c.enumerate-f-items.ensures.source, c.chunks.ensures.rest, c.chunks.ensures.size) (omega arith)),
      ),
      tt,
    )

pub frame_place-at-requires : goal.frame_place-at-requires
unfolding encoder_view frames_in
frame_place-at-requires c =
    let p = goal.at.frame_place-at-requires c in
    (few p.Start, omega (arith, (now p.In-Some).0, below p.In-Some))

pub first_wide-requires : goal.first_wide-requires
first_wide-requires c = few (goal.at.first_wide-requires c).Start

pub returns-in-Some-first_wide : goal.returns-in-Some-first_wide
unfolding encoder_view
returns-in-Some-first_wide c =
    let p = goal.at.returns-in-Some-first_wide c in
    let h = shot p.Start in
    let v = encoder_view c.args.e in
    let samples = c.args.samples.now in
    let n = length c.loop-f.yielded in
    let j = c.in-Some-first_wide.channel in
    let there = below p.In-Some in
    let stop : Stop = record { frame = n; channel = j } in
    let wide = sym (said p.After-first_wide) ∙ ap told_wide c.in-Some-first_wide.is in
    let place : c.frame_place-at.result ≡ length (bytes_before v samples n) = c.frame_place-at.ensures ∙ ap (frame_place c.args.e.channels) (now p.In-Some).0 ∙ sym (place_before v samples h.good_state.some_channels h.long n there) in
    shot_wide _ _ _ _ _ stop c.requires (stop_stays v samples (frames_of v) (suc n) stop (stop_here v samples n j c.loop-f.invariant.narrow wide) there)
    (ap told_encode c.refused.ensures.0 ∙ ap {B = Told} (λ (k : ℕ). refuses_14 k j) place) (memory p.At-loop-f h) c.refused.ensures.1

pub put_frame-state-requires : goal.put_frame-state-requires
unfolding encoder_view
put_frame-state-requires c =
    let p = goal.at.put_frame-state-requires c in
    let h = shot p.Start in
    let v = encoder_view c.args.e in
    let samples = c.args.samples.now in
    let n = length c.loop-f.yielded in
    let g = h.good_state in
    let turn = now p.In-Some in
    record {
      frame_fits = rw turn.1 (chunk_fits v samples g.some_channels h.long g c.loop-f.state n c.loop-f.invariant.state (below p.In-Some) (narrow p.In_default));
      samples_in_bounds = rw (turn.1, c.frame_place-at.ensures, turn.0) (omega (arith, long p.At-loop-f h, h.enough, chunk_room v samples g.some_channels h.long g c.loop-f.state n c.loop-f.invariant.state (below p.In-Some)));
    }

pub loop-f-preserved : goal.loop-f-preserved
unfolding encoder_view
loop-f-preserved c =
    let p = goal.at.loop-f-preserved c in
    let h = shot p.Start in
    let v = encoder_view c.args.e in
    let samples = c.args.samples.now in
    let n = length c.loop-f.yielded in
    let more = length_push c.loop-f.yielded (c.in-Some.f, c.in-Some.frame) in
    let there = below p.In-Some in
    let g = h.good_state in
    let turn = now p.In-Some in
    let head = head_bytes c.args.e.total in
    let started = ap length c.put_head.ensures ∙ length_over c.args.out.now 0 head (omega (arith, length_head c.args.e.total, eight p.Start)) in
    let room = before_small v samples g.some_channels h.long n c.loop-f.invariant.few in
    let put = rw (turn.1, c.frame_place-at.ensures, turn.0) at c.put_frame-state.ensures.bytes in
    rw more record {
      few = omega arith;
      turn = turn.3;
      state = rw add-one (c.put_frame-state.ensures.state ∙ rw turn.1 (view_next v samples g.some_channels h.long g c.loop-f.state n c.loop-f.invariant.state there));
      narrow = rw add-one (stop_more v samples n c.loop-f.invariant.narrow (narrow p.In_default));
      bytes = rw add-one (put ∙ rw c.loop-f.invariant.bytes (chunk_over v samples g.some_channels h.long g c.loop-f.state n c.loop-f.invariant.state there _ (omega (arith, started, room, h.enough))));
    }

pub file_need-requires : goal.file_need-requires
file_need-requires c = (few (goal.at.file_need-requires c).Start, omega arith)

pub returns : goal.returns
unfolding encoder_view
returns c =
    let p = goal.at.returns c in
    let h = shot p.Start in
    let v = encoder_view c.args.e in
    let samples = c.args.samples.now in
    let n = length c.loop-f.yielded in
    let done : n ≡ frames_of v = all_frames v samples h.good_state.some_channels h.long n c.loop-f.invariant.few (turned (frame_len * c.args.e.channels) samples n c.loop-f.f-iterator c.next.new.self c.loop-f.invariant.turn c.in-None.ensures.steps) in
    shot_done _ _ _ _ _ c.requires (ap (stop_in v samples) (sym done) ∙ c.loop-f.invariant.narrow) (ap {B = Told} wrote c.file_need.ensures)
    (memory p.At-loop-f h ∙ ap (λ (f : ℕ). laid_over c.args.out.now 0 (good (bytes_before v samples f))) done) (c.loop-f.invariant.state ∙ ap (state_before v samples) done)
