-- A state that an accepted call hands back passes the state rules for the same bytes. Assumes nothing.
use mathlib.Core.Path.{◌≡◌, refl}
use mathlib.Core.Bool.{Bool, true, false, cond, not}
use mathlib.Core.List.{List}
use mathlib.Core.Logic.{dite}
use mathlib.Core.Option.{none}
use Prim.Native.Nat.{ℕ, zero, suc, ◌+◌, ◌-◌, ◌*◌, ◌≤◌, ◌<◌, min}
use native.Mathlib.Decide.{dec_lt}
use native.Mathlib.Nat.{le_refl, min-le_left, mul-le-mul_right}
use native.Mathlib.Omega.{arith}
use borrow.Author.Tests.{le-ltb, lt-ltb, ne_eqb}
use lib.Dec.{T, eqb, ltb}
use lib.ListN.{length}
use Rattle.refusal.specs.Rules.{first_of}
use Rattle.refusal.proofs.Rules.{Quiet, none_fires, quiet}
use Rattle.word.proofs.Tables.{get_or_table}
use Rattle.word.proofs.Tests.{tests}
use Rattle.lms.specs.Parts.{HistoryFits, WeightsWithin}
use Rattle.lms.proofs.Bounds.{within_more}
use Rattle.format.specs.Format.{slices_of, state_end}
use Rattle.format.specs.Header.{header_at, left_at}
use Rattle.format.specs.Predictor.{lms_of, no_lms}
use Rattle.word.proofs.Fields.{AreBytes}
use Rattle.groups.specs.Channel.{run_after}
use Rattle.groups.specs.Groups.{word_at}
use Rattle.groups.proofs.Fits.{run_fits}
use Rattle.groups.proofs.Growth.{run_within}
use Rattle.state.specs.View.{View, channels_of, waiting, flagged}
use Rattle.state.specs.States.{good_state, weight_bound}
use Rattle.state.proofs.Bounds.{bound_grows}
use Rattle.state.proofs.GoodStates.{Good, facts_good, good_facts}
use Rattle.state.proofs.OpenedStates.{read_good}
use Rattle.into.specs.Into.{pending_to, groups_end, groups_lms, groups_samples, into_after, into_count, into_groups, into_rules, pending_from, taken_from}
use Rattle.frames.specs.Frames as Frames
use Rattle.frames.specs.Frames.{past_rest, enter_rules, entered, entered_or, entry_rules, kind_of, next_rules}
use Rattle.decoder.specs.Items.{Turn, first_header, from_group, from_next, from_pending, item_after, item_rules, settled, turn_after, turn_of, turn_rules}
use Rattle.into.proofs.Counts.{groups_within_frame, slices_cover}
use Rattle.format.proofs.Checking.{passed}
use Rattle.into.proofs.Ranges.{range_le, range_order}

-- a rule that is quiet about a test
is_true : (b : Bool) → T (not (not b)) → b ≡ true
is_true true t = refl
is_true false t = absurd t

-- ---- after some groups

module _ (bs : List ℕ) (v : View) (g : Good v (length bs)) (few : v.remaining ≤ 65535) where
  -- the predictors
  groups_history : (q j : ℕ) → j < channels_of v → HistoryFits (lms_of (groups_lms bs v q) j)
  unfolding groups_lms
  groups_history q j h =
      rw (get_or_table (channels_of v) (λ j. run_after (word_at bs v.at (channels_of v) j) (lms_of v.lms j) q) j no_lms h)
      (run_fits (word_at bs v.at (channels_of v) j) (g.histories j h) q)

  groups_weights : (q j : ℕ) → q ≤ slices_of v.remaining → j < channels_of v → WeightsWithin (weight_bound (v.remaining - groups_samples v q)) (lms_of (groups_lms bs v q) j)
  unfolding groups_lms
  groups_weights q j needed h =
      rw (get_or_table (channels_of v) (λ j. run_after (word_at bs v.at (channels_of v) j) (lms_of v.lms j) q) j no_lms h)
      (within_more (bound_grows v.remaining q few needed) (run_within (word_at bs v.at (channels_of v) j) (g.weights j h) q))

  -- the pending samples are of one group at most
  end_le : (q : ℕ) → pending_to v q ≤ 20 * channels_of v
  end_le zero = g.one_group
  end_le (suc q) =
      let some-group : eqb (suc q) 0 ≡ false = ne_eqb (suc q) 0 (λ e. omega arith) in
      let last : suc q - 1 ≡ q = omega arith in
      let most : groups_samples v (suc q) * channels_of v ≤ 20 * suc q * channels_of v = mul-le-mul_right (channels_of v) (min-le_left (20 * suc q) v.remaining) in
      rw (some-group, last) (omega arith)

  pub taken_good : (q k : ℕ) → q ≤ slices_of v.remaining → groups_end v q ≤ length bs → Good (taken_from bs v q k) (length bs)
  unfolding taken_from
  taken_good q k needed whole =
      record {
        place = whole;
        mode_good = g.mode_good;
        few_channels = g.few_channels;
        some_channels = λ h. g.some_channels (omega arith);
        within_frame = omega (arith, g.within_frame);
        in_order = range_order (pending_from v q k) (pending_to v q);
        one_group = omega (arith, range_le (pending_from v q k) (pending_to v q), end_le q);
        histories = groups_history q;
        weights = λ j h. groups_weights q j needed h;
      }

  -- all that remains, dropped
  pub dropped_good : groups_end v (slices_of v.remaining) ≤ length bs → Good (past_rest bs v) (length bs)
  unfolding past_rest
  dropped_good whole =
      let all : v.remaining - groups_samples v (slices_of v.remaining) ≡ 0 = all_samples v.remaining in
      record {
        place = whole;
        mode_good = g.mode_good;
        few_channels = g.few_channels;
        some_channels = λ h. absurd (omega arith);
        within_frame = omega arith;
        in_order = omega arith;
        one_group = omega arith;
        histories = groups_history (slices_of v.remaining);
        weights = λ j h. rw all at (groups_weights (slices_of v.remaining) j (le_refl (slices_of v.remaining)) h);
      }
    where
      all_samples : (r : ℕ) → r - min (20 * slices_of r) r ≡ 0
      all_samples r = omega (arith, slices_cover r)

-- ---- decode_into

module _ (bs : List ℕ) (v : View) (small : v.frame.samples ≤ 65535) where
  few : Good v (length bs) → v.remaining ≤ 65535
  few g = omega (arith, g.within_frame)

  pub into_after_good : (room : ℕ) → first_of (into_rules bs v room) ≡ none → good_state (into_after bs v room) (length bs) ≡ true
  unfolding into_rules
  into_after_good room e =
      let q = quiet (into_rules bs v room) e in
      let g = good_facts v (length bs) (is_true (good_state v (length bs)) q.0) in
      let needed = groups_within_frame (channels_of v) (into_count v room - waiting v) v.remaining (omega arith) in
      facts_good (into_after bs v room) (length bs) (taken_good bs v g (few g) (into_groups v room) (into_count v room) needed (omega (arith, tests)))

-- ---- a frame that is entered, or the end

module _ (bs : List ℕ) (bytes : AreBytes bs) (v : View) (g : Good v (length bs)) where
  entered_good : 8 ≤ left_at bs v.at → first_of (entry_rules v.mode (header_at bs v.at) (left_at bs v.at)) ≡ none → Good (entered bs v) (length bs)
  unfolding entered
  entered_good there e =
      let h = header_at bs v.at in
      let facts = passed (kind_of v.mode) h (state_end h.channels) (left_at bs v.at) e in
      record {
        place = omega (arith, facts.there);
        mode_good = g.mode_good;
        few_channels = facts.header.few_channels;
        some_channels = λ r. facts.header.some_channels;
        within_frame = le_refl h.samples;
        in_order = omega arith;
        one_group = omega arith;
        histories = λ j l. (read_good bs (v.at + 8) h.channels h.samples j bytes l).0;
        weights = λ j l. (read_good bs (v.at + 8) h.channels h.samples j bytes l).1;
      }

  pub entered_or_good : first_of (enter_rules bs v) ≡ none → Good (entered_or bs v) (length bs)
  unfolding enter_rules entered_or
  entered_or_good e =
      dite (dec_lt (left_at bs v.at) 8)
      (λ short. let test = lt-ltb (left_at bs v.at) 8 short in rw test g)
      (λ there. let test = le-ltb (left_at bs v.at) 8 (omega arith) in rw test (entered_good (omega arith) (rw test at e)))

-- the group's turn has a group to come
one_slice : (v : View) → turn_of v ≡ from_group → 1 ≤ slices_of v.remaining
unfolding turn_of slices_of
one_slice v e =
    dite (dec_lt 0 v.remaining)
    (λ h. omega arith)
    (λ h.
    let none_left = le-ltb 0 v.remaining (omega arith) in
    absurd (never_group (ltb 0 (waiting v)) v.given (rw none_left at e)))
  where
    never_group : (a b : Bool) → cond a from_pending (cond (not b) first_header (cond false from_group from_next)) ≡ from_group → ⊥
    never_group true b e = let z : ◌≡◌ {A = ℕ} 0 1 = cc in omega arith
    never_group false true e = let z : ◌≡◌ {A = ℕ} 0 1 = cc in omega arith
    never_group false false e = let z : ◌≡◌ {A = ℕ} 0 1 = cc in omega arith

module _ (bs : List ℕ) (bytes : AreBytes bs) (v : View) (small : v.frame.samples ≤ 65535) where
  pub next_after_good : first_of (next_rules bs v) ≡ none → good_state (Frames.next_after bs v) (length bs) ≡ true
  unfolding next_rules
  next_after_good e =
      let q = quiet (next_rules bs v) e in
      let g = good_facts v (length bs) (is_true (good_state v (length bs)) q.0) in
      let d = dropped_good bs v g (few bs v small g) (omega (arith, tests)) in
      facts_good (Frames.next_after bs v) (length bs) (entered_or_good bs bytes (past_rest bs v) d (none_fires (enter_rules bs (past_rest bs v)) q.1.1))

  -- ---- the item step

  settled_good : Good v (length bs) → Good (settled v) (length bs)
  settled_good g =
      record {
        place = g.place;
        mode_good = g.mode_good;
        few_channels = g.few_channels;
        some_channels = g.some_channels;
        within_frame = g.within_frame;
        in_order = omega arith;
        one_group = omega arith;
        histories = g.histories;
        weights = g.weights;
      }

  turn_good : (t : Turn) → turn_of v ≡ t → Good v (length bs) → Quiet (turn_rules t bs v) → Good (turn_after t bs v) (length bs)
  unfolding enter_rules
  turn_good from_pending e g q = flagged_good v.given (taken_from bs v 0 1) (taken_good bs v g (few bs v small g) 0 1 (omega arith) (omega (arith, g.place)))
    where
      flagged_good : (b : Bool) (w : View) → Good w (length bs) → Good (flagged b w) (length bs)
      flagged_good b w g =
          record {
            place = g.place;
            mode_good = g.mode_good;
            few_channels = g.few_channels;
            some_channels = g.some_channels;
            within_frame = g.within_frame;
            in_order = g.in_order;
            one_group = g.one_group;
            histories = g.histories;
            weights = g.weights;
          }
  turn_good first_header e g q = settled_good g
  turn_good from_group e g q = taken_good bs v g (few bs v small g) 1 1 (one_slice v e) (omega (arith, tests, q.0))
  turn_good from_next e g q = entered_or_good bs bytes (settled v) (settled_good g) (none_fires (enter_rules bs v) q)

  pub item_after_good : first_of (item_rules bs v) ≡ none → good_state (item_after bs v) (length bs) ≡ true
  unfolding item_rules item_after
  item_after_good e =
      let q = quiet (item_rules bs v) e in
      let g = good_facts v (length bs) (is_true (good_state v (length bs)) q.0) in
      facts_good (item_after bs v) (length bs) (turn_good (turn_of v) refl g q.1)
