-- A frame read where it stands, at the start of the bytes: its header, states and slices. Assumes nothing.
use Prim.Native.Nat.{ℕ, zero, suc, ◌+◌, ◌*◌, ◌/◌, ◌%◌, ◌≤◌, ◌<◌}
use mathlib.Core.Path.{◌≡◌, sym, ap, ◌∙◌}
use mathlib.Core.List.{List}
use native.Mathlib.Nat.{mod-lt, mul-le-mul_right, mul-one, mul-zero, not-suc-le-zero, zero-add, add-zero}
use native.Mathlib.Omega.{arith}
use lib.IntN.{ℤ}
use lib.ListN.{length, take, drop}
use Rattle.word.specs.Table.{table}
use Rattle.word.proofs.Tables.{get_or_table, table_ext}
use Rattle.word.proofs.Writes.{written_at}
use Rattle.lms.specs.declared.QoaLms.{QoaLms}
use Rattle.format.specs.Format.{frame_length, slices_of, state_end}
use Rattle.format.specs.Header.{header_at}
use Rattle.format.specs.Part.{length_of}
use Rattle.format.specs.Predictor.{lms_at, lms_of, no_lms}
use Rattle.format.specs.declared.frame.FrameHeader.{FrameHeader}
use Rattle.word.proofs.Fields.{AreBytes}
use Rattle.predictors.proofs.Predictors.{lms_take, read_within}
use Rattle.groups.specs.Channel.{channel_at}
use Rattle.groups.specs.Groups.{groups_at, word_at}
use Rattle.groups.proofs.Parts.{samples_take}
use Rattle.file.specs.Frame.{count_of, frame_samples, frame_states}
use Rattle.file.specs.Walk.{frame_at}
use Rattle.file.proofs.Frames.{header_at_lem}
use Rattle.groups.specs.Parts.{AllWithin}
use Rattle.word.specs.Parts.{written}
use Rattle.format.proofs.Headers.{header_drop}

-- the header at the start of what is left from a place on
pub header_here : (b : List ℕ) (at : ℕ) → header_at (drop at b) 0 ≡ header_at b at
header_here b at = rw add-zero at (header_drop at b 0)

-- ---- the states

-- those of a frame with the header h
states_by : List ℕ → FrameHeader → List QoaLms
states_by f h = table h.channels (λ j. lms_at f (8 + 16 * j))

samples_by : List ℕ → FrameHeader → List ℤ
samples_by f h = table (count_of h) (groups_at f (state_end h.channels) h.channels (states_by f h))

samples_by_lem : (f : List ℕ) (h : FrameHeader) → header_at f 0 ≡ h → frame_samples f ≡ samples_by f h
unfolding frame_samples frame_states samples_by states_by
samples_by_lem f h e = ap (samples_by f) e

-- the states that stand there are those that the frame states
abbrev pub StatesAt : List ℕ → ℕ → List QoaLms → Type 0
StatesAt b c states = (j : ℕ) → j < c → lms_of states j ≡ lms_at b (8 + 16 * j)

module _ (b : List ℕ) (h : FrameHeader) (states : List QoaLms) (there : StatesAt b h.channels states) where
  states_here : (j : ℕ) → j < h.channels → lms_of (states_by (take (length_of h) b) h) j ≡ lms_of states j
  unfolding states_by frame_length state_end
  states_here j l =
      get_or_table h.channels (λ j. lms_at (take (length_of h) b) (8 + 16 * j)) j no_lms l
      ∙ lms_take (length_of h) b (8 + 16 * j) (omega arith)
      ∙ sym (there j l)

  some_channel : (n k c : ℕ) → k < n * c → 0 < c
  some_channel n k zero l = absurd (not-suc-le-zero (rw mul-zero at l))
  some_channel n k (suc c) l = omega arith

  sample_here : (k : ℕ) → k < count_of h
      → groups_at (take (length_of h) b) (state_end h.channels) h.channels (states_by (take (length_of h) b) h) k
      ≡ groups_at b (state_end h.channels) h.channels states k
  unfolding groups_at frame_length slices_of
  sample_here k l =
      let c = h.channels in
      let own = states_by (take (length_of h) b) h in
      let groups : h.samples ≤ 20 * slices_of h.samples = omega arith in
      let within : k < 20 * slices_of h.samples * c = omega (arith, mul-le-mul_right c groups) in
      let some : 0 < c = some_channel h.samples k c l in
      samples_take (length_of h) b (state_end c) c (slices_of h.samples) (omega arith) own k within
      ∙ ap (λ (s : QoaLms). channel_at (word_at b (state_end c) c (k % c)) s (k / c)) (states_here (k % c) (mod-lt k some))

  -- so the samples of the frame are those of the slice groups there
  pub frame_here : header_at b 0 ≡ h → length_of h ≤ length b
      → frame_samples (frame_at b) ≡ table (count_of h) (groups_at b (state_end h.channels) h.channels states)
  unfolding samples_by
  frame_here same room =
      let f = take (length_of h) b in
      let cut : frame_at b ≡ f = ap (λ (z : FrameHeader). take (length_of z) b) same in
      let whole : header_at (frame_at b) 0 ≡ h = header_at_lem b (rw same room) ∙ same in
      ap frame_samples cut
      ∙ samples_by_lem f h (rw cut at whole)
      ∙ table_ext (count_of h) _ (groups_at b (state_end h.channels) h.channels states) sample_here

-- those that are read there
pub states_read : (b : List ℕ) (c : ℕ) (unread : List QoaLms) → c ≤ length unread → StatesAt b c (written (λ j. lms_at b (8 + 16 * j)) unread 0 1 c)
states_read b c unread room j l = rw (zero-add, mul-one) at (written_at (λ j. lms_at b (8 + 16 * j)) unread 0 1 c j no_lms (omega arith) l (omega arith))

-- the weights are of 16 bits
pub states_within : (b : List ℕ) (c : ℕ) (states : List QoaLms) → AreBytes b → StatesAt b c states → AllWithin 32768 c states
states_within b c states bytes there j l = rw (there j l) (read_within b (8 + 16 * j) bytes)
