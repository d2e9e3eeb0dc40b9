-- The samples to come: the pending ones, then those of the groups from the place on. Assumes nothing.
use mathlib.Core.Path.{◌≡◌, ap, sym, ◌∙◌}
use mathlib.Core.List.{List}
use Prim.Native.Nat.{ℕ, ◌+◌, ◌-◌, ◌*◌, ◌/◌, ◌%◌, ◌≤◌, ◌<◌}
use native.Mathlib.Nat.{mod-lt, mul-one, zero-add}
use native.Mathlib.Omega.{arith}
use borrow.Author.Tests.{le-ltb, lt-ltb}
use lib.IntN.{ℤ, pos}
use lib.ListN.{get_or, length}
use Rattle.word.specs.Table.{table}
use Rattle.word.proofs.Tables.{table_ext}
use Rattle.word.proofs.Writes.{written_at, written_ext, written_join}
use Rattle.lms.specs.declared.QoaLms.{QoaLms}
use Rattle.format.specs.Predictor.{lms_of}
use Rattle.groups.specs.Channel.{channel_at, run_after}
use Rattle.groups.specs.Groups.{groups_at, word_at}
use Rattle.groups.proofs.GroupLaws.{groups_lms_lem, groups_shift}
use Rattle.state.specs.View.{view, waiting}
use Rattle.state.specs.declared.QoaDecoder.{QoaDecoder}
use Rattle.state.proofs.Views.{view_lms, view_pending}
use Rattle.into.specs.Into.{coming_at, groups_lms}
use Rattle.word.specs.Parts.{written}
use Rattle.groups.specs.Parts.{groups_states}

-- of a state with its used channels in the array
module _ (bs : List ℕ) (d : QoaDecoder) where
  abbrev c : ℕ
  c = d.frame.channels

  pub coming_pending : (i : ℕ) → i < waiting (view d) → coming_at bs (view d) i ≡ get_or d.pending (d.next + i) (pos 0)
  unfolding coming_at view
  coming_pending i h = rw (lt-ltb i (d.end - d.next) h) (view_pending d i h)

  -- only the used channels' predictors count
  groups_used : 0 < c → (i : ℕ) → groups_at bs d.at c (view d).lms i ≡ groups_at bs d.at c d.lms i
  unfolding groups_at
  groups_used some i = ap (λ (s : QoaLms). channel_at (word_at bs d.at c (i % c)) s (i / c)) (view_lms d (i % c) (mod-lt i some))

  pub coming_groups : 0 < c → (i : ℕ) → coming_at bs (view d) (waiting (view d) + i) ≡ groups_at bs d.at c d.lms i
  unfolding coming_at view
  coming_groups some i =
      let u : ℕ = d.end - d.next in
      let past : u + i - u ≡ i = omega arith in
      rw (le-ltb (u + i) u (omega arith), past) (groups_used some i)

  -- the predictors after q groups, of the used channels
  pub lms_after : (q : ℕ) → c ≤ length d.lms → table c (lms_of (groups_states bs d.at c d.lms q)) ≡ groups_lms bs (view d) q
  unfolding groups_lms view
  lms_after q room =
      table_ext c (lms_of (groups_states bs d.at c d.lms q)) (λ j. run_after (word_at bs d.at c j) (lms_of (view d).lms j) q)
      (λ j h. groups_lms_lem bs d.at c d.lms q j h (omega arith) ∙ ap (λ (s : QoaLms). run_after (word_at bs d.at c j) s q) (sym (view_lms d j h)))

  pub lms_same : table c (lms_of d.lms) ≡ groups_lms bs (view d) 0
  unfolding groups_lms run_after view
  lms_same = table_ext c (lms_of d.lms) (λ j. lms_of (view d).lms j) (λ j h. sym (view_lms d j h))

  -- a group decoded aside, after w whole ones
  module _ (some : 0 < c) (room : c ≤ length d.lms) (w m : ℕ) (aside : List ℤ) (long : m ≤ length aside) where
    abbrev pub last_aside : List ℤ
    last_aside = written (groups_at bs (d.at + 8 * (w * c)) c (groups_states bs d.at c d.lms w)) aside 0 1 m

    pub coming_last : (i : ℕ) → i < m → get_or last_aside i (pos 0) ≡ coming_at bs (view d) (waiting (view d) + (20 * w * c + i))
    coming_last i h =
        let states : List QoaLms = groups_states bs d.at c d.lms w in
        let f : ℕ → ℤ = groups_at bs (d.at + 8 * (w * c)) c states in
        (rw (zero-add, mul-one) at (written_at f aside 0 1 m i (pos 0) (omega arith) h (omega (arith, mul-one i))))
        ∙ sym (groups_shift bs d.at c d.lms w i some room)
        ∙ sym (coming_groups some (20 * w * c + i))

    -- what is stored: the pending samples, the whole groups, and r of the last one
    stored_all : (out : List ℤ) (r : ℕ) → r ≤ m
        → written (λ i. get_or last_aside (0 + i) (pos 0))
        (written (groups_at bs d.at c d.lms) (written (λ i. get_or d.pending (d.next + i) (pos 0)) out 0 1 (waiting (view d))) (waiting (view d)) 1 (20 * w * c))
        (waiting (view d) + 20 * w * c) 1 r
        ≡ written (coming_at bs (view d)) out 0 1 (waiting (view d) + 20 * w * c + r)
    stored_all out r le =
        let u : ℕ = waiting (view d) in
        let all : ℕ → ℤ = coming_at bs (view d) in
        let first : written (λ i. get_or d.pending (d.next + i) (pos 0)) out 0 1 u ≡ written all out 0 1 u =
        written_ext (λ i. get_or d.pending (d.next + i) (pos 0)) out 0 1 all u (λ i h. sym (coming_pending i h)) in
        let then : written (groups_at bs d.at c d.lms) (written all out 0 1 u) u 1 (20 * w * c) ≡ written all out 0 1 (u + 20 * w * c) =
        written_ext (groups_at bs d.at c d.lms) (written all out 0 1 u) u 1 (λ i. all (u + i)) (20 * w * c) (λ i h. sym (coming_groups some i))
        ∙ written_join all out u (20 * w * c) in
        rw (first, then)
        (written_ext (λ i. get_or last_aside (0 + i) (pos 0)) (written all out 0 1 (u + 20 * w * c)) (u + 20 * w * c) 1 (λ i. all (u + 20 * w * c + i)) r
        (λ i h.
        let place : u + (20 * w * c + i) ≡ u + 20 * w * c + i = omega arith in
        rw zero-add (coming_last i (omega arith) ∙ ap all place))
        ∙ written_join all out (u + 20 * w * c) r)

    -- the same of lists and numbers that are equal to these
    pub stored_from : (out fresh half : List ℤ) (place count r : ℕ) → r ≤ m
        → fresh ≡ last_aside
        → half ≡ written (groups_at bs d.at c d.lms) (written (λ i. get_or d.pending (d.next + i) (pos 0)) out 0 1 (waiting (view d))) (waiting (view d)) 1 (20 * w * c)
        → place ≡ waiting (view d) + 20 * w * c
        → count ≡ waiting (view d) + 20 * w * c + r
        → written (λ i. get_or fresh (0 + i) (pos 0)) half place 1 r ≡ written (coming_at bs (view d)) out 0 1 count
    stored_from out fresh half place count r le fresh-is half_is place_is count_is = rw (fresh-is, half_is, place_is, count_is) (stored_all out r le)
