-- What a one-shot call tells is small, whatever its rules. Assumes nothing.
use Prim.Native.Nat.{ℕ, zero, suc, ◌≤◌, ◌<◌, ◌^◌}
use mathlib.Core.Path.{◌≡◌, refl, ap}
use mathlib.Core.List.{List}
use mathlib.Core.Option.{Option, none, some}
use native.Mathlib.Nat.{lt_of_le_of_lt, mul-le-mul_left, mul-le-mul_right}
use native.Mathlib.Omega.{arith}
use lib.IntN.{ℤ}
use lib.ListN.{length}
use Rattle.refusal.specs.Rules.{Rule, after, first_of, good}
use Rattle.refusal.proofs.Rules.{after_good, good_same}
use Rattle.word.proofs.Tests.{tests}
use Rattle.format.specs.Format.{max_channels, slices_of, state_end}
use Rattle.encoder.specs.Calls.{if_some, refuses, refuses_14, wrote}
use Rattle.encoder.specs.Encoder.{EncoderView}
use Rattle.encoder.specs.Frame.{first_wide}
use Rattle.oneshot.specs.OneShot.{Stop, state_before, bytes_before, file_need, frames_in, frames_of, need_of, need_rules, or_stop, stop_at, stop_in}
use Rattle.oneshot.specs.Parts.{Small}
use Rattle.oneshot.specs.Shots.{shot_told}
use Rattle.oneshot.proofs.Ends.{Shot}
use Rattle.oneshot.proofs.Files.{before_small}

-- ---- the need of a file

few_frames : (total : ℕ) → total < 2 ^ 32 → frames_in total ≤ 838861
unfolding frames_in
few_frames total l = omega arith

few_slices : (total : ℕ) → total < 2 ^ 32 → slices_of total ≤ 214748366
unfolding slices_of
few_slices total l = omega arith

short_state : (c : ℕ) → c ≤ max_channels → state_end c ≤ state_end max_channels
unfolding state_end
short_state c few = omega arith

pub need_small : (c total : ℕ) → c ≤ max_channels → total < 2 ^ 32 → need_of c total < 2 ^ 40
unfolding need_of state_end
need_small c total few l =
    omega (arith, mul-le-mul_left (frames_in total) (short_state c few), few_frames total l, mul-le-mul_right (slices_of total) few, few_slices total l)

pub told_need_small : (c total n : ℕ) → total < 2 ^ 32 → after (need_rules c total) (good (need_of c total)) ≡ good n → n < 2 ^ 40
unfolding need_rules
told_need_small c total n l e =
    let found = after_good (need_rules c total) (good (need_of c total)) n e in
    let rules = found.0 in
    let few : c ≤ max_channels = omega (arith, tests) in
    let same = good_same (need_of c total) n found.1 in
    omega (arith, need_small c total few l)

-- ---- where it stops

-- at one of the frames
later : (f : ℕ) (o : Option Stop) (w : Option ℕ) (s : Stop) → ((t : Stop) → o ≡ some t → t.frame < f) → or_stop o (stop_at f w) ≡ some s → s.frame < suc f
later f none none s sooner e = let z : ◌≡◌ {A = ℕ} 0 1 = cc in omega arith
later f none (some j) s sooner e = let same : record { frame = f; channel = j } ≡ s = cc in let at = ap (λ (t : Stop). t.frame) same in omega arith
later f (some t) w s sooner e = let same : t ≡ s = cc in let at = ap (λ (t : Stop). t.frame) same in let less = sooner t refl in omega arith

stop_within : (v : EncoderView) (samples : List ℤ) (n : ℕ) (s : Stop) → stop_in v samples n ≡ some s → s.frame < n
unfolding stop_in
stop_within v samples zero s e = let z : ◌≡◌ {A = ℕ} 0 1 = cc in omega arith
stop_within v samples (suc f) s e = later f (stop_in v samples f) (first_wide v.channels (state_before v samples f).lms) s (λ t p. stop_within v samples f t p) e

-- ---- the call

module _ (rules : List Rule) (v : EncoderView) (samples : List ℤ) (room : ℕ) (l : v.total < 2 ^ 32) (fits : first_of rules ≡ none → Shot v samples room) where
  file_small : Shot v samples room → file_need v < 2 ^ 40
  file_small shot = need_small v.channels v.total shot.good_state.few_channels l

  by_stop : Shot v samples room → (o : Option Stop) → stop_in v samples (frames_of v) ≡ o
      → Small (if_some o (λ s. refuses_14 (length (bytes_before v samples s.frame)) s.channel) (wrote (file_need v)))
  by_stop shot none e = file_small shot
  by_stop shot (some s) e =
      let less = stop_within v samples (frames_of v) s e in
      lt_of_le_of_lt (before_small v samples shot.good_state.some_channels shot.long s.frame (omega arith)) (file_small shot)

  by_rules : (o : Option ℕ) → first_of rules ≡ o
      → Small (if_some o refuses (if_some (stop_in v samples (frames_of v)) (λ s. refuses_14 (length (bytes_before v samples s.frame)) s.channel) (wrote (file_need v))))
  by_rules (some n) e = tt
  by_rules none e = by_stop (fits e) (stop_in v samples (frames_of v)) refl

  pub told_small : Small (shot_told rules v samples)
  unfolding shot_told
  told_small = by_rules (first_of rules) refl
