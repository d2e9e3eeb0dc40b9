-- A decoder that enters a whole good frame stands before the first of the frame's samples. Assumes nothing.
use Prim.Native.Nat.{ℕ, ◌-◌, ◌≤◌, ◌<◌}
use mathlib.Core.Path.{◌≡◌, ap, ap₂, sym, ◌∙◌}
use mathlib.Core.List.{List}
use mathlib.Core.Option.{none}
use native.Mathlib.Nat.{zero-add}
use native.Mathlib.Omega.{arith}
use borrow.Author.Tests.{le-ltb}
use lib.IntN.{pos}
use lib.ListN.{get_or, length}
use Rattle.refusal.specs.Rules.{first_of}
use Rattle.refusal.proofs.Rules.{none_fires}
use Rattle.word.proofs.Fields.{AreBytes}
use Rattle.word.proofs.Tables.{get_or_table, length_table}
use Rattle.format.specs.Format.{frame_length, slices_of, state_end}
use Rattle.format.specs.Header.{header_at, left_at}
use Rattle.format.specs.declared.checks.Kind.TheVariants.{Any}
use Rattle.format.specs.declared.frame.FrameHeader.{FrameHeader}
use Rattle.format.proofs.Checking.{quiet_checks}
use Rattle.file.specs.Frame.{count_of, frame_samples, frame_states}
use Rattle.file.specs.Parts.{IsFree}
use Rattle.groups.specs.Groups.{groups_at}
use Rattle.state.specs.View.{View, total, view}
use Rattle.state.specs.Opening.{zero_state}
use Rattle.state.proofs.GoodStates.{Good, facts_good}
use Rattle.into.specs.Into.{coming_at, groups_end}
use Rattle.into.proofs.Onward.{coming_then}
use Rattle.frames.specs.Frames.{enter_rules, entered, entered_or}
use Rattle.decoder.proofs.GoodAfter.{entered_or_good}
use Rattle.frame_samples.specs.Places.{StandsAt}

-- how many samples a frame has
pub length_samples : (f : List ℕ) → length (frame_samples f) ≡ count_of (header_at f 0)
unfolding frame_samples
length_samples f = length_table (count_of (header_at f 0)) (groups_at f (state_end (header_at f 0).channels) (header_at f 0).channels (frame_states f))

-- the state of no decoder passes the rules
abbrev pub start : View
start = view zero_state

start_good : (bytes : ℕ) → Good start bytes
unfolding view zero_state
start_good bytes =
    record {
      place = omega arith;
      mode_good = tt;
      few_channels = omega arith;
      some_channels = λ h. absurd (omega arith);
      within_frame = omega arith;
      in_order = omega arith;
      one_group = omega arith;
      histories = λ j h. absurd (omega arith);
      weights = λ j h. absurd (omega arith);
    }

module _ (f : List ℕ) (is : IsFree f) where
  abbrev h : FrameHeader
  h = header_at f 0

  -- a header and the state of a channel are there
  pub long_enough : 24 ≤ length f
  unfolding frame_length state_end
  long_enough = omega (arith, is.whole, is.passes.some_channels)

  -- the frame is accepted
  pub enters : first_of (enter_rules f start) ≡ none
  unfolding enter_rules view zero_state frame_length
  enters =
      let long = le-ltb (left_at f 0) 8 (omega (arith, long_enough)) in
      rw long (none_fires _ (quiet_checks Any h (state_end h.channels) (left_at f 0) (record { header = is.passes; like = tt; there = omega (arith, is.whole) })))

  pub entered_there : entered_or f start ≡ entered f start
  unfolding entered_or view zero_state
  entered_there = let long = le-ltb (left_at f 0) 8 (omega (arith, long_enough)) in rw long

  total_entered : total (entered f start) ≡ count_of h
  unfolding entered view zero_state
  total_entered = omega arith

  -- the samples to come are the frame's
  coming_entered : (i : ℕ) → i < count_of h → coming_at f (entered f start) i ≡ get_or (frame_samples f) i (pos 0)
  unfolding entered view zero_state frame_samples frame_states
  coming_entered i l =
      let place : i - (0 - 0) ≡ i = omega arith in
      coming_then f (entered f start) i (omega arith)
      ∙ ap₂ (λ (p k : ℕ). groups_at f p h.channels (frame_states f) k) (zero-add (state_end h.channels)) place
      ∙ sym (get_or_table (count_of h) (groups_at f (state_end h.channels) h.channels (frame_states f)) i (pos 0) l)

  whole_entered : groups_end (entered f start) (slices_of (entered f start).remaining) ≤ length f
  unfolding entered view zero_state frame_length
  whole_entered = omega (arith, is.whole)

  pub stands_first : AreBytes f → StandsAt f 0 (entered f start)
  stands_first bytes =
      record {
        passes = facts_good (entered f start) (length f) (rw entered_there at (entered_or_good f bytes start (start_good (length f)) enters));
        whole = whole_entered;
        left = omega (arith, total_entered, length_samples f);
        coming = λ i l. coming_entered i (omega (arith, total_entered)) ∙ ap (λ (k : ℕ). get_or (frame_samples f) k (pos 0)) (sym (zero-add i));
      }
