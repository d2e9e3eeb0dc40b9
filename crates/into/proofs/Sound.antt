-- What a good state gives the functions below the calls: its rules as plain facts of the state itself, and its weights' room to grow. Assumes nothing.
use mathlib.Core.Path.{◌≡◌, sym, ◌∙◌}
use mathlib.Core.Bool.{true}
use mathlib.Core.List.{List, map}
use Prim.Native.Nat.{ℕ, ◌*◌, ◌^◌, ◌≤◌, ◌<◌}
use native.Mathlib.Omega.{arith}
use lib.ListN.{length, length-map}
use Rattle.lms.proofs.Bounds.{within_more}
use Rattle.format.specs.Format.{max_channels}
use Rattle.groups.proofs.Growth.{groups_within}
use Rattle.state.specs.View.{view}
use Rattle.state.specs.States.{good_state}
use Rattle.state.specs.declared.QoaDecoder.{QoaDecoder}
use Rattle.state.proofs.Bounds.{bound_most}
use Rattle.state.proofs.GoodStates.{good_facts}
use Rattle.state.proofs.Views.{view_lms}
use Rattle.groups.specs.Parts.{AllWithin, groups_states}

-- an array's list is as long as its machine value
pub length_mapped : {X Y : Type 0} (f : X → Y) (l : List X) (n : ℕ) → length (map f l) ≡ n → length l ≡ n
length_mapped f l n e = sym (length-map l f) ∙ e

pub record Sound (d : QoaDecoder) (bytes : ℕ) : Type 0 where
  pub place : d.at ≤ bytes
  pub few_channels : d.frame.channels ≤ max_channels
  pub some_channels : 0 < d.remaining → 0 < d.frame.channels
  pub within_frame : d.remaining ≤ d.frame.samples
  pub in_order : d.next ≤ d.end
  pub one_group : d.end ≤ 20 * d.frame.channels
  pub weights : AllWithin (2 ^ 26) d.frame.channels d.lms

pub sound : (d : QoaDecoder) (bytes : ℕ) → good_state (view d) bytes ≡ true → Sound d bytes
unfolding view
sound d bytes e =
    let g = good_facts (view d) bytes e in
    record {
      place = g.place;
      few_channels = g.few_channels;
      some_channels = g.some_channels;
      within_frame = g.within_frame;
      in_order = g.in_order;
      one_group = g.one_group;
      weights = λ j h. rw (view_lms d j h) at (within_more {C = 2 ^ 26} (omega (arith, bound_most d.remaining)) (g.weights j h));
    }

-- after so many groups, those of a frame at most
pub run_ready : {bytes : ℕ} (d : QoaDecoder) (bs : List ℕ) (q : ℕ) → Sound d bytes → q ≤ 3277
    → AllWithin (2 ^ 28) d.frame.channels (groups_states bs d.at d.frame.channels d.lms q)
run_ready d bs q s few j h = within_more (omega arith) (groups_within bs d.at d.frame.channels d.lms q s.weights j h)
