-- The state rules of an encoder as plain facts. Assumes nothing.
use Prim.Native.Nat.{ℕ, ◌≤◌, ◌<◌}
use mathlib.Core.Path.{◌≡◌, ap}
use mathlib.Core.Bool.{true}
use borrow.Author.Tests.{le-leb, leb-true}
use lib.Dec.{leb}
use Rattle.word.proofs.Tables.{get_or_table}
use Rattle.lms.specs.Predictor.{new_lms, history_rule}
use Rattle.lms.proofs.Bounds.{new_fits}
use Rattle.format.specs.Format.{max_channels, most_rate}
use Rattle.format.specs.Predictor.{lms_of, no_lms}
use Rattle.lms.specs.Parts.{HistoryFits}
use Rattle.word.specs.Below.{below}
use Rattle.word.proofs.Belows.{and_left, and_right, below_all, below_at, below_ext}
use Rattle.encoder.specs.Encoder.{EncoderView, encoder_view, good_encoder, new_view}
use Rattle.encoder.specs.declared.QoaEncoder.{QoaEncoder}
use Rattle.lms.proofs.Shorts.{facts_history, history_facts}

pub record Good (v : EncoderView) : Type 0 where
  pub some_channels : 0 < v.channels
  pub few_channels : v.channels ≤ max_channels
  pub some_rate : 0 < v.rate
  pub rate_fits : v.rate ≤ most_rate
  pub some_total : 0 < v.total
  pub histories : (j : ℕ) → j < v.channels → HistoryFits (lms_of v.lms j)

pub good_facts : (v : EncoderView) → good_encoder v ≡ true → Good v
unfolding good_encoder
good_facts v e =
    let e1 = and_right (leb 1 v.channels) _ e in
    let e2 = and_right (leb v.channels max_channels) _ e1 in
    let e3 = and_right (leb 1 v.rate) _ e2 in
    let e4 = and_right (leb v.rate most_rate) _ e3 in
    let e5 = and_right (leb 1 v.total) _ e4 in
    record {
      some_channels = leb-true _ _ (and_left _ _ e);
      few_channels = leb-true _ _ (and_left _ _ e1);
      some_rate = leb-true _ _ (and_left _ _ e2);
      rate_fits = leb-true _ _ (and_left _ _ e3);
      some_total = leb-true _ _ (and_left _ _ e4);
      histories = λ j l. history_facts (lms_of v.lms j) (below_at (λ j. history_rule (lms_of v.lms j)) v.channels e5 j l);
    }

pub facts_good : (v : EncoderView) → Good v → good_encoder v ≡ true
unfolding good_encoder
facts_good v g =
    simp (
      le-leb _ _ g.some_channels,
      le-leb _ _ g.few_channels,
      le-leb _ _ g.some_rate,
      le-leb _ _ g.rate_fits,
      le-leb _ _ g.some_total,
      below_all (λ j. history_rule (lms_of v.lms j)) v.channels (λ j l. facts_history (lms_of v.lms j) (g.histories j l)),
    )

-- ---- what a view shows of the state

pub view_lms : (e : QoaEncoder) (j : ℕ) → j < e.channels → lms_of (encoder_view e).lms j ≡ lms_of e.lms j
unfolding encoder_view
view_lms e j h = get_or_table e.channels (lms_of e.lms) j no_lms h

-- where the other rules hold, the histories decide
pub good_by : (e : QoaEncoder) → 0 < e.channels → e.channels ≤ max_channels → 0 < e.rate → e.rate ≤ most_rate → 0 < e.total
    → good_encoder (encoder_view e) ≡ below e.channels (λ j. history_rule (lms_of e.lms j))
unfolding good_encoder encoder_view
good_by e c m r k t =
    simp (le-leb 1 e.channels c, le-leb e.channels max_channels m, le-leb 1 e.rate r, le-leb e.rate most_rate k, le-leb 1 e.total t)
    (below_ext (λ j. history_rule (lms_of (encoder_view e).lms j)) (λ j. history_rule (lms_of e.lms j)) e.channels (λ j l. ap history_rule (view_lms e j l)))

-- a new encoder is good
pub good_new : (c rate total : ℕ) → 0 < c → c ≤ max_channels → 0 < rate → rate ≤ most_rate → 0 < total → Good (new_view c rate total)
unfolding new_view
good_new c rate total hc hm hr hk ht = record {
  some_channels = hc;
  few_channels = hm;
  some_rate = hr;
  rate_fits = hk;
  some_total = ht;
  histories = λ j l. rw (get_or_table c (λ j. new_lms) j no_lms l) new_fits;
}
