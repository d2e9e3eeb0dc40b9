-- The state rules as plain facts. Assumes nothing.
use Prim.Native.Nat.{ℕ, zero, suc, ◌*◌, ◌<◌, ◌≤◌}
use mathlib.Core.Path.{◌≡◌, refl, ap, ◌∙◌}
use mathlib.Core.Bool.{Bool, true, false, ◌&&◌}
use mathlib.Core.List.{List}
use native.Mathlib.Omega.{arith}
use borrow.Author.Tests.{eqb-true, le-leb, leb-true}
use lib.Dec.{eqb, leb}
use lib.IntN.{nat_abs}
use lib.ListN.{length}
use Rattle.lms.specs.Predictor.{at, history_rule}
use Rattle.lms.specs.declared.QoaLms.{QoaLms}
use Rattle.format.specs.Format.{max_channels, most_rate}
use Rattle.format.specs.Predictor.{lms_of}
use Rattle.state.specs.View.{View, channels_of, view}
use Rattle.state.specs.States.{good_state, lms_rule, mode_rule, some_channels, weight_bound, weight_rule}
use Rattle.state.specs.declared.QoaDecoder.{QoaDecoder}
use Rattle.state.specs.declared.ProcessingMode.{ProcessingMode}
use Rattle.state.specs.declared.ProcessingMode.TheVariants.{FixedSamples, Streaming}
use Rattle.lms.specs.Parts.{HistoryFits, WeightsWithin}
use Rattle.lms.proofs.Shorts.{anywhere, facts_history, history_facts}
use Rattle.state.proofs.Views.{view_lms}
use Rattle.word.proofs.Belows.{and_both, and_left, and_right, below_all, below_at, below_ext}

-- what the rules say of the mode
pub record Fixed (total c rate : ℕ) : Type 0 where
  pub some_total : 0 < total
  pub some_first : 0 < c
  pub few_first : c ≤ max_channels
  pub some_rate : 0 < rate
  pub rate_small : rate ≤ most_rate

abbrev pub ModeFacts : ProcessingMode → Type 0
ModeFacts (FixedSamples total c rate) = Fixed total c rate
ModeFacts Streaming = Unit {0}

-- and of a state, for an input of so many bytes
pub record Good (v : View) (bytes : ℕ) : Type 0 where
  pub place : v.at ≤ bytes
  pub mode_good : ModeFacts v.mode
  pub few_channels : channels_of v ≤ max_channels
  pub some_channels : 0 < v.remaining → 0 < channels_of v
  pub within_frame : v.remaining ≤ v.frame.samples
  pub in_order : v.next ≤ v.end
  pub one_group : v.end ≤ 20 * channels_of v
  pub histories : (j : ℕ) → j < channels_of v → HistoryFits (lms_of v.lms j)
  pub weights : (j : ℕ) → j < channels_of v → WeightsWithin (weight_bound v.remaining) (lms_of v.lms j)

-- ---- the mode and the channels

mode_facts : (m : ProcessingMode) → mode_rule m ≡ true → ModeFacts m
unfolding mode_rule
mode_facts (FixedSamples total c rate) e =
    let after-total = and_right (leb 1 total) _ e in
    let after-some = and_right (leb 1 c) _ after-total in
    let after-few = and_right (leb c max_channels) _ after-some in
    record {
      some_total = leb-true 1 total (and_left _ _ e);
      some_first = leb-true 1 c (and_left _ _ after-total);
      few_first = leb-true c max_channels (and_left _ _ after-some);
      some_rate = leb-true 1 rate (and_left _ _ after-few);
      rate_small = leb-true rate most_rate (and_right (leb 1 rate) _ after-few);
    }
mode_facts Streaming e = tt

facts_mode : (m : ProcessingMode) → ModeFacts m → mode_rule m ≡ true
unfolding mode_rule
facts_mode (FixedSamples total c rate) f =
    simp (le-leb 1 total f.some_total, le-leb 1 c f.some_first, le-leb c max_channels f.few_first, le-leb 1 rate f.some_rate, le-leb rate most_rate f.rate_small)
facts_mode Streaming f = refl

channels_facts : (c r : ℕ) → some_channels c r ≡ true → 0 < r → 0 < c
unfolding some_channels
channels_facts zero r e some = let none : r ≡ 0 = eqb-true r 0 e in omega arith
channels_facts (suc c) r e some = omega arith

facts_channels : (c r : ℕ) → (0 < r → 0 < c) → some_channels c r ≡ true
unfolding some_channels
facts_channels zero r f = go r f
  where
    go : (r : ℕ) → (0 < r → 0 < zero) → eqb r 0 ≡ true
    go zero f = refl
    go (suc r) f = absurd (omega (arith, f (omega arith)))
facts_channels (suc c) r f = simp (le-leb 1 (suc c) (omega arith))

-- ---- the predictors

pub weight_facts : (b : ℕ) (s : QoaLms) → weight_rule b s ≡ true → WeightsWithin b s
unfolding weight_rule
weight_facts b s e = record { bound = λ i. leb-true _ _ (anywhere (λ z. leb (nat_abs z) b) s.weights (le-leb 0 b (omega arith)) e i) }

pub facts_weight : (b : ℕ) (s : QoaLms) → WeightsWithin b s → weight_rule b s ≡ true
unfolding weight_rule
facts_weight b s f = below_all (λ i. leb (nat_abs (at s.weights i)) b) (length s.weights) (λ i l. le-leb _ _ (f.bound i))

-- the rule of one channel
abbrev pub channel_rule : ℕ → List QoaLms → ℕ → Bool
channel_rule b states j = history_rule (lms_of states j) && weight_rule b (lms_of states j)

lms_facts : (c b : ℕ) (states : List QoaLms) → lms_rule c b states ≡ true → (j : ℕ) → j < c → HistoryFits (lms_of states j) × WeightsWithin b (lms_of states j)
unfolding lms_rule
lms_facts c b states e j h =
    let here = below_at (channel_rule b states) c e j h in
    (history_facts (lms_of states j) (and_left _ _ here), weight_facts b (lms_of states j) (and_right (history_rule (lms_of states j)) _ here))

facts_lms : (c b : ℕ) (states : List QoaLms) → ((j : ℕ) → j < c → HistoryFits (lms_of states j)) → ((j : ℕ) → j < c → WeightsWithin b (lms_of states j)) → lms_rule c b states ≡ true
unfolding lms_rule
facts_lms c b states f w = below_all (channel_rule b states) c (λ j l. and_both _ _ (facts_history (lms_of states j) (f j l)) (facts_weight b (lms_of states j) (w j l)))

-- ---- the whole state

pub good_facts : (v : View) (bytes : ℕ) → good_state v bytes ≡ true → Good v bytes
unfolding good_state
good_facts v bytes e =
    let e1 = and_right (leb v.at bytes) _ e in
    let e2 = and_right (mode_rule v.mode) _ e1 in
    let e3 = and_right (leb (channels_of v) max_channels) _ e2 in
    let e4 = and_right (some_channels (channels_of v) v.remaining) _ e3 in
    let e5 = and_right (leb v.remaining v.frame.samples) _ e4 in
    let e6 = and_right (leb v.next v.end) _ e5 in
    let predictors = lms_facts (channels_of v) (weight_bound v.remaining) v.lms (and_right (leb v.end (20 * channels_of v)) _ e6) in
    record {
      place = leb-true _ _ (and_left _ _ e);
      mode_good = mode_facts v.mode (and_left _ _ e1);
      few_channels = leb-true _ _ (and_left _ _ e2);
      some_channels = channels_facts (channels_of v) v.remaining (and_left _ _ e3);
      within_frame = leb-true _ _ (and_left _ _ e4);
      in_order = leb-true _ _ (and_left _ _ e5);
      one_group = leb-true _ _ (and_left _ _ e6);
      histories = λ j l. (predictors j l).0;
      weights = λ j l. (predictors j l).1;
    }

pub facts_good : (v : View) (bytes : ℕ) → Good v bytes → good_state v bytes ≡ true
unfolding good_state
facts_good v bytes g =
    simp (
      le-leb _ _ g.place,
      facts_mode v.mode g.mode_good,
      le-leb _ _ g.few_channels,
      facts_channels (channels_of v) v.remaining g.some_channels,
      le-leb _ _ g.within_frame,
      le-leb _ _ g.in_order,
      le-leb _ _ g.one_group,
      facts_lms (channels_of v) (weight_bound v.remaining) v.lms g.histories g.weights,
    )

-- ---- the rules as the code groups them, over the state itself

regroup : (a b c d e f : Bool) → (a && (b && (c && (d && (e && f))))) ≡ ((a && (b && c)) && ((d && e) && f))
regroup false b c d e f = refl
regroup true false c d e f = refl
regroup true true false d e f = refl
regroup true true true false e f = refl
regroup true true true true e f = refl

pub good_view : (d : QoaDecoder) (bytes : ℕ)
    → good_state (view d) bytes ≡
    (leb d.at bytes && (mode_rule d.mode
    && ((leb d.frame.channels max_channels && (some_channels d.frame.channels d.remaining && leb d.remaining d.frame.samples))
    && ((leb d.next d.end && leb d.end (20 * d.frame.channels))
    && lms_rule d.frame.channels (weight_bound d.remaining) d.lms))))
unfolding good_state view lms_rule
good_view d bytes =
    let c = d.frame.channels in
    let b = weight_bound d.remaining in
    let used : lms_rule c b (view d).lms ≡ lms_rule c b d.lms =
    below_ext (channel_rule b (view d).lms) (channel_rule b d.lms) c (λ j l. ap (λ (s : QoaLms). history_rule s && weight_rule b s) (view_lms d j l)) in
    ap (λ (t : Bool). leb d.at bytes && (mode_rule d.mode && t))
    (regroup (leb c max_channels) (some_channels c d.remaining) (leb d.remaining d.frame.samples) (leb d.next d.end) (leb d.end (20 * c)) (lms_rule c b (view d).lms)
    ∙ ap (λ (t : Bool). (leb c max_channels && (some_channels c d.remaining && leb d.remaining d.frame.samples)) && ((leb d.next d.end && leb d.end (20 * c)) && t)) used)
