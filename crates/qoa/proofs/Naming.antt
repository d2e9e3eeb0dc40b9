-- The code of `qoa_encode_all` tells all that the call told. Assumes nothing.
use Prim.Native.Nat.{ℕ, zero, suc, ◌<◌}
use mathlib.Core.Path.{◌≡◌, refl, subst}
use mathlib.Core.Bool.{Bool, true, false, cond}
use mathlib.Core.List.{List, [], ◌∷◌}
use mathlib.Core.Option.{Option, none, some, none-ne-some}
use native.Mathlib.Omega.{arith}
use lib.IntN.{ℤ}
use lib.ListN.{length}
use Rattle.refusal.specs.Rules.{Rule, ◌gives◌, first_of}
use Rattle.refusal.proofs.Rules.{none_fires, quiet, quiet_parts}
use Rattle.lms.specs.declared.QoaLms.{QoaLms}
use Rattle.format.specs.Predictor.{lms_of}
use Rattle.lms.specs.Predictor.{all_short}
use Rattle.encoder.specs.Calls.{Told, if_some, refuses, refuses_14, wrote}
use Rattle.encoder.specs.Encoder.{EncoderView, create_rules, new_view}
use Rattle.encoder.specs.Frame.{first_wide, or_then}
use Rattle.oneshot.specs.OneShot.{Stop, state_before, bytes_before, file_need, frames_of, or_stop, shot_rules, stop_at, stop_in}
use Rattle.oneshot.specs.Shots.{all_rules, shot_told}
use Rattle.oneshot.proofs.Ends.{shot_fits}
use Rattle.codes.specs.Codes.{coded_encode}
use Rattle.codes.proofs.Apart.{Low, NamedTold, coded_encode_one}
use Rattle.qoa.proofs.Refusing.{Numbers, low}

-- ---- the numbers of the rules

low_first : (l : List Rule) → Numbers l → (n : ℕ) → first_of l ≡ some n → Low n
unfolding first_of
low_first [] low n e = absurd (none-ne-some n e)
low_first ((true gives m) ∷ l) low n e = let same : m ≡ n = cc in rw (same) at low.0
low_first ((false gives m) ∷ l) low n e = low_first l low.1 n e

all_low : (c rate total : ℕ) (samples : List ℤ) (room : ℕ) → Numbers (all_rules c rate total samples room)
unfolding create_rules shot_rules
all_low c rate total samples room = (low tt, (low tt, (low tt, (low tt, (low tt, (low tt, (low tt, (low tt, tt))))))))

-- ---- the channel is one of the encoder's

or_within : (n : ℕ) (o : Option ℕ) (fits : Bool) (j : ℕ) → ((i : ℕ) → o ≡ some i → i < n) → or_then o (cond fits none (some n)) ≡ some j → j < suc n
or_within n (some i) fits j sooner e = let same : i ≡ j = cc in let less = sooner i refl in omega arith
or_within n none true j sooner e = absurd (none-ne-some j e)
or_within n none false j sooner e = let same : n ≡ j = cc in omega arith

wide_within : (n : ℕ) (states : List QoaLms) (j : ℕ) → first_wide n states ≡ some j → j < n
unfolding first_wide
wide_within zero states j e = absurd (none-ne-some j e)
wide_within (suc n) states j e = or_within n (first_wide n states) (all_short (lms_of states n).weights) j (λ i p. wide_within n states i p) e

stop_or : (c f : ℕ) (o : Option Stop) (w : Option ℕ) (s : Stop) → ((t : Stop) → o ≡ some t → t.channel < c) → ((j : ℕ) → w ≡ some j → j < c)
    → or_stop o (stop_at f w) ≡ some s → s.channel < c
stop_or c f (some t) w s sooner wide e = let same : t ≡ s = cc in subst (λ (x : Stop). x.channel < c) same (sooner t refl)
stop_or c f none none s sooner wide e = absurd (none-ne-some s e)
stop_or c f none (some j) s sooner wide e = let same : record { frame = f; channel = j } ≡ s = cc in subst (λ (x : Stop). x.channel < c) same (wide j refl)

stop_channel : (v : EncoderView) (samples : List ℤ) (n : ℕ) (s : Stop) → stop_in v samples n ≡ some s → s.channel < v.channels
unfolding stop_in
stop_channel v samples zero s e = absurd (none-ne-some s e)
stop_channel v samples (suc f) s e =
    stop_or v.channels f (stop_in v samples f) (first_wide v.channels (state_before v samples f).lms) s (λ t p. stop_channel v samples f t p)
    (λ j p. wide_within v.channels (state_before v samples f).lms j p) e

-- ---- the call

module _ (c rate total : ℕ) (samples : List ℤ) (room : ℕ) where
  abbrev new : EncoderView
  new = new_view c rate total

  abbrev rules : List Rule
  rules = all_rules c rate total samples room

  abbrev stopped : Option Stop → Told
  stopped o = if_some o (λ s. refuses_14 (length (bytes_before new samples s.frame)) s.channel) (wrote (file_need new))

  by_stop : first_of rules ≡ none → (o : Option Stop) → stop_in new samples (frames_of new) ≡ o → NamedTold (stopped o)
  unfolding new_view
  by_stop passed none e = tt
  by_stop passed (some s) e =
      let shots = (quiet_parts (create_rules c rate total) (shot_rules new samples room) (quiet rules passed)).1 in
      let few = (shot_fits new samples room (none_fires (shot_rules new samples room) shots)).good_state.few_channels in
      let one = stop_channel new samples (frames_of new) s e in
      omega arith

  by_rules : (o : Option ℕ) → first_of rules ≡ o → NamedTold (if_some o refuses (stopped (stop_in new samples (frames_of new))))
  by_rules none e = by_stop e (stop_in new samples (frames_of new)) refl
  by_rules (some n) e = low_first rules (all_low c rate total samples room) n e

  pub told_named : NamedTold (shot_told rules new samples)
  unfolding shot_told
  told_named = by_rules (first_of rules) refl

-- two calls with one code told the same
pub encode_all_apart : (c rate total : ℕ) (samples : List ℤ) (room : ℕ) (c' rate' total' : ℕ) (samples' : List ℤ) (room' : ℕ)
    → coded_encode (shot_told (all_rules c rate total samples room) (new_view c rate total) samples)
    ≡ coded_encode (shot_told (all_rules c' rate' total' samples' room') (new_view c' rate' total') samples')
    → shot_told (all_rules c rate total samples room) (new_view c rate total) samples
    ≡ shot_told (all_rules c' rate' total' samples' room') (new_view c' rate' total') samples'
encode_all_apart c rate total samples room c' rate' total' samples' room' =
    coded_encode_one _ _ (told_named c rate total samples room) (told_named c' rate' total' samples' room')
