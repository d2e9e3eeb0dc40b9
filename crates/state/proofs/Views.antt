-- What a state's view shows of the state. Assumes nothing.
use Prim.Native.Nat.{ℕ, ◌+◌, ◌-◌, ◌<◌, ◌≤◌}
use mathlib.Core.Path.{◌≡◌}
use mathlib.Core.List.{List}
use native.Mathlib.Nat.{mul-one, zero-add}
use native.Mathlib.Omega.{arith}
use lib.Dec.{lit<}
use lib.IntN.{pos}
use lib.ListN.{get_or, length}
use Rattle.word.specs.Table.{table}
use Rattle.word.proofs.Tables.{get_or_table, length_table, table_ext}
use Rattle.word.proofs.Writes.{written_at}
use Rattle.lms.specs.declared.QoaLms.{QoaLms}
use Rattle.format.specs.Predictor.{lms_of, no_lms}
use Rattle.state.specs.View.{view}
use Rattle.state.specs.declared.QoaDecoder.{QoaDecoder}
use Rattle.word.specs.Parts.{written}

module _ (d : QoaDecoder) where
  -- the pending samples
  pub view_pending : (i : ℕ) → i < d.end - d.next → get_or (view d).pending i (pos 0) ≡ get_or d.pending (d.next + i) (pos 0)
  unfolding view
  view_pending i h = get_or_table (d.end - d.next) (λ k. get_or d.pending (d.next + k) (pos 0)) i (pos 0) h

  pub view_waiting : length (view d).pending ≡ d.end - d.next
  unfolding view
  view_waiting = length_table (d.end - d.next) (λ k. get_or d.pending (d.next + k) (pos 0))

  -- the predictors of the used channels
  pub view_lms : (j : ℕ) → j < d.frame.channels → lms_of (view d).lms j ≡ lms_of d.lms j
  unfolding view
  view_lms j h = get_or_table d.frame.channels (lms_of d.lms) j no_lms h

  pub view_channels : length (view d).lms ≡ d.frame.channels
  unfolding view
  view_channels = length_table d.frame.channels (lms_of d.lms)

-- the predictors that were stored over the first of an array's
pub stored_lms : (f : ℕ → QoaLms) (states : List QoaLms) (c : ℕ) → c ≤ length states → table c (lms_of (written f states 0 1 c)) ≡ table c f
stored_lms f states c room =
    table_ext c (lms_of (written f states 0 1 c)) f (λ j l. rw (zero-add, mul-one) at (written_at f states 0 1 c j no_lms (lit< tt) l (omega (arith, mul-one j))))
