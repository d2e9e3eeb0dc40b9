-- The state after some samples, as the code leaves it, seen by its view. Assumes nothing.
use mathlib.Core.Path.{◌≡◌, refl, ap, ap₂, sym, ◌∙◌}
use mathlib.Core.Bool.{Bool, true, false}
use mathlib.Core.List.{List}
use mathlib.Core.Logic.{dite}
use Prim.Native.Nat.{ℕ, ◌+◌, ◌-◌, ◌*◌, ◌≤◌, ◌<◌, min}
use native.Mathlib.Decide.{dec_lt}
use native.Mathlib.Omega.{arith}
use borrow.Author.Tests.{ne_eqb}
use lib.Dec.{eqb}
use lib.IntN.{ℤ, pos}
use lib.ListN.{get_or, length}
use Rattle.word.specs.Table.{table}
use Rattle.word.proofs.Tables.{table_ext}
use Rattle.lms.specs.declared.QoaLms.{QoaLms}
use Rattle.format.specs.Format.{slices_of}
use Rattle.groups.specs.Parts.{groups_states}
use Rattle.groups.proofs.GroupLaws.{groups_more}
use Rattle.state.specs.View.{View, moved_to, view, view_of, waiting, flagged}
use Rattle.state.specs.declared.QoaDecoder.{QoaDecoder}
use Rattle.into.specs.Into.{coming_at, pending_to, groups_for, pending_from, range_end, range_next, taken_from}
use Rattle.into.proofs.Counts.{Split, groups_are, groups_some, last_slices, samples_are}
use Rattle.into.proofs.Ranges.{range_none, range_table, table_same}
use Rattle.into.proofs.Coming.{coming_last, coming_pending, last_aside, lms_after, lms_same}

-- the state in the same frame, at another place of it
abbrev pub left_at : QoaDecoder → ℕ → ℕ → ℕ → ℕ → Bool → List QoaLms → List ℤ → QoaDecoder
left_at d at remaining next end given lms pending = record {
  mode = d.mode;
  at = at;
  frame = d.frame;
  remaining = remaining;
  next = next;
  end = end;
  given = given;
  lms = lms;
  pending = pending;
}

-- a call that decodes marks the first header as given
pub taken_given : (bs : List ℕ) (v : View) (q k : ℕ) → flagged true (taken_from bs v q k) ≡ taken_from bs v q k
unfolding taken_from
taken_given bs v q k = refl

module _ (bs : List ℕ) (d : QoaDecoder) where
  -- after k pending samples
  pub view_pending_left : (g : Bool) (k : ℕ) → k ≤ waiting (view d)
      → view (left_at d d.at d.remaining (range_next (d.next + k) d.end) (range_end (d.next + k) d.end) g d.lms d.pending)
      ≡ flagged g (taken_from bs (view d) 0 k)
  unfolding view taken_from
  view_pending_left g k le =
      let at-is : d.at ≡ d.at + 8 * (0 * d.frame.channels) = omega arith in
      let remaining-is : d.remaining ≡ d.remaining - min (20 * 0) d.remaining = omega arith in
      let pending_is =
      range_table (d.next + k) d.end (λ i. get_or d.pending i (pos 0))
      ∙ table_ext (d.end - (d.next + k)) (λ i. get_or d.pending (d.next + k + i) (pos 0)) (λ i. coming_at bs (view d) (k + i))
      (λ i h.
      let place : d.next + k + i ≡ d.next + (k + i) = omega arith in
      ap (λ (m : ℕ). get_or d.pending m (pos 0)) place ∙ sym (coming_pending bs d (k + i) (omega arith))) in
      let lms-is = lms_same bs d in
      λ i. view_of d.mode g d.frame (at-is i) (remaining-is i) (record { next = range_next (d.next + k) d.end; end = range_end (d.next + k) d.end; samples = pending_is i }) (lms-is i)

-- ---- after the pending samples and `more`

module _ (bs : List ℕ) (d : QoaDecoder) {more w r n : ℕ} (s : Split d.frame.channels d.remaining more w r n) (some : 0 < more) where
  abbrev c : ℕ
  c = d.frame.channels

  abbrev q : ℕ
  q = w + slices_of n

  abbrev k : ℕ
  k = waiting (view d) + more

  -- where a part of the last group is asked for, the range is in it
  part_range : 0 < r → (pending_from (view d) q k ≡ r) × (pending_to (view d) q ≡ n * c)
  unfolding view
  part_range part =
      let one : slices_of n ≡ 1 = (last_slices s).1 part in
      let last : w + slices_of n - 1 ≡ w = omega arith in
      let some-group : eqb (w + slices_of n) 0 ≡ false = ne_eqb (w + slices_of n) 0 (λ e. omega arith) in
      rw (some-group, last, samples_are s) (omega (arith, s.parts))

  -- where none is, no sample stays pending
  whole_range : r ≡ 0 → (pending_from (view d) q k ≡ 20 * c) × (pending_to (view d) q ≡ 20 * c)
  unfolding view
  whole_range none =
      let no-slice : slices_of n ≡ 0 = (last_slices s).0 none in
      let no_sample : n ≡ 0 = s.none_last none in
      let some-group : eqb (w + slices_of n) 0 ≡ false = ne_eqb (w + slices_of n) 0 (λ e. omega (arith, groups_some s some)) in
      let last : (w + slices_of n - 1) + 1 ≡ w = omega (arith, groups_some s some) in
      let product : ((w + slices_of n - 1) + 1) * c ≡ w * c = ap (λ (m : ℕ). m * c) last in
      let empty : n * c ≡ 0 * c = ap (λ (m : ℕ). m * c) no_sample in
      rw (some-group, samples_are s) (omega (arith, s.parts))

  -- either way the range is that of the definition
  range_is : (range_next r (n * c) ≡ range_next (pending_from (view d) q k) (pending_to (view d) q)) × (range_end r (n * c) ≡ range_end (pending_from (view d) q k) (pending_to (view d) q))
  range_is =
      dite (dec_lt 0 r)
      (λ part. let e = part_range part in (sym (ap₂ range_next e.0 e.1), sym (ap₂ range_end e.0 e.1)))
      (λ none.
      let no-rest : r ≡ 0 = omega arith in
      let no_sample : n * c ≡ 0 = ap (λ (m : ℕ). m * c) (s.none_last no-rest) ∙ omega arith in
      let e = whole_range no-rest in
      let here = range_none r (n * c) (omega arith) in
      let there = range_none (pending_from (view d) q k) (pending_to (view d) q) (omega arith) in
      (here.0 ∙ sym there.0, here.1 ∙ sym there.1))

  -- and so are the samples in it
  module _ (room : d.frame.channels ≤ length d.lms) (aside : List ℤ) (long : n * d.frame.channels ≤ length aside) where
    pending_is : table (n * c - r) (λ i. get_or (last_aside bs d s.some_channels room w (n * c) aside long) (r + i) (pos 0))
        ≡ table (pending_to (view d) q - pending_from (view d) q k) (λ i. coming_at bs (view d) (k + i))
    pending_is =
        let last : List ℤ = last_aside bs d s.some_channels room w (n * c) aside long in
        dite (dec_lt 0 r)
        (λ part.
        let e = part_range part in
        table_same (n * c - r) (pending_to (view d) q - pending_from (view d) q k) (λ i. get_or last (r + i) (pos 0)) (λ i. coming_at bs (view d) (k + i)) (omega arith)
        (λ i h.
        let place : waiting (view d) + (20 * w * c + (r + i)) ≡ waiting (view d) + more + i = omega (arith, s.parts) in
        coming_last bs d s.some_channels room w (n * c) aside long (r + i) (omega arith) ∙ ap (coming_at bs (view d)) place))
        (λ none.
        let no-rest : r ≡ 0 = omega arith in
        let no_sample : n * c ≡ 0 = ap (λ (m : ℕ). m * c) (s.none_last no-rest) ∙ omega arith in
        let e = whole_range no-rest in
        table_same (n * c - r) (pending_to (view d) q - pending_from (view d) q k) (λ i. get_or last (r + i) (pos 0)) (λ i. coming_at bs (view d) (k + i)) (omega arith)
        (λ i h. absurd (omega arith)))

    view_at_once :
        view (left_at d (d.at + 8 * (w * c) + 8 * (slices_of n * c)) (d.remaining - 20 * w - n) (range_next r (n * c)) (range_end r (n * c)) true
        (groups_states bs d.at c d.lms q) (last_aside bs d s.some_channels room w (n * c) aside long))
        ≡ taken_from bs (view d) q k
    unfolding view taken_from
    view_at_once =
        let at-is : d.at + 8 * (w * c) + 8 * (slices_of n * c) ≡ d.at + 8 * (q * c) = omega arith in
        let remaining-is : d.remaining - 20 * w - n ≡ d.remaining - min (20 * q) d.remaining = rw (samples_are s) (omega arith) in
        let next-is = range_is.0 in
        let end_is = range_is.1 in
        let samples-same = range_table r (n * c) (λ i. get_or (last_aside bs d s.some_channels room w (n * c) aside long) i (pos 0)) ∙ pending_is in
        let lms-is = lms_after bs d q room in
        λ i. moved_to (view d) d.frame (at-is i) (remaining-is i) (record { next = next-is i; end = end_is i; samples = samples-same i }) (lms-is i)

    pub view_more_left :
        view (left_at d (d.at + 8 * (w * c) + 8 * (slices_of n * c)) (d.remaining - 20 * w - n) (range_next r (n * c)) (range_end r (n * c)) true
        (groups_states bs (d.at + 8 * (w * c)) c (groups_states bs d.at c d.lms w) (slices_of n)) (last_aside bs d s.some_channels room w (n * c) aside long))
        ≡ taken_from bs (view d) (groups_for c more) k
    view_more_left = rw (groups_are s, ← groups_more bs d.at c d.lms w (slices_of n)) view_at_once
