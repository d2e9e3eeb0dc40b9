-- `body::put_groups` meets its contract. The invariant: the first `g` groups are searched, in the predictors and in `out`.
-- Assumes nothing.
use borrow.Author.Rules.{rules}
use mathlib.Core.Path.{◌≡◌, refl, sym, ap, ◌∙◌}
use Prim.Native.Nat.{ℕ, ◌+◌, ◌*◌, ◌-◌, ◌≤◌, ◌<◌}
use native.Mathlib.Nat.{min-le_left, min-le_right}
use native.Mathlib.Numerals.{add-one}
use native.Mathlib.Omega.{arith}
use lib.ListN.{length}
use Rattle.word.specs.Bytes.{bytes_of}
use Rattle.word.proofs.Writes.{length_written}
use Rattle.lms.proofs.Bounds.{within_more}
use Rattle.format.specs.Format.{slices_of, slices_per_frame}
use Rattle.format.specs.Predictor.{lms_of, no_lms}
use Rattle.search.specs.Search.{strided}
use Rattle.search.proofs.Fitting.{strided_length}
use Rattle.body.specs.Channel.{lms_before, slice_word}
use Rattle.refusal.specs.Rules.{good}
use Rattle.refusal.specs.Lent.{laid_over}
use Rattle.body.specs.Laid.{laid}
use Rattle.body.proofs.Channels.{before_within, group_inside, next_lms, next_word, words_before, words_inside}
use Rattle.body.proofs.Laids.{laid_ext, length_blocks, length_words, next_block, written_here}
use Rattle.refusal.proofs.Lents.{over_nil}
use Rattle.body.proofs.put_groups.Invariants.{group}
use Rattle.body.proofs.put_groups.Goals as goal
use Rattle.body.proofs.put_groups.Goals.{After-put_group-after, After-min-count, At-loop-g, In-loop-g}

pub loop-g-init : goal.loop-g-init
unfolding lms_before laid
loop-g-init c = (omega arith, search rules, λ k h. refl, sym (over_nil _ _))

-- the group has samples, and the frame at most 256 groups
some : (c : In-loop-g) → (20 * c.loop-g.g < c.args.n) × (c.loop-g.g ≤ slices_per_frame)
unfolding slices_of
some c = omega (arith, c.slices_of-slices.ensures, c.requires.small)

-- its words have their room
room : (c : In-loop-g) → c.args.at + 8 * (c.loop-g.g * c.args.channels) + 8 * c.args.channels ≤ length c.args.out.now
unfolding slices_of
room c =
    let args = c.args in
    let below : c.loop-g.g < slices_of args.n = omega (arith, c.slices_of-slices.ensures) in
    words_inside (length args.out.now) args.at args.channels c.loop-g.g (slices_of args.n) below c.requires.room

pub overflow_mul-done : goal.overflow_mul-done
overflow_mul-done c = omega (arith, some (goal.at.overflow_mul-done c).In-loop-g)

pub overflow_sub-n : goal.overflow_sub-n
overflow_sub-n c = omega (arith, some (goal.at.overflow_sub-n c).In-loop-g)

-- and its samples are there
inside : (c : After-min-count) → 20 * c.loop-g.g < c.args.n → 20 * c.loop-g.g * c.args.channels + c.min-count.result * c.args.channels ≤ length c.args.samples.now
inside c more =
    let args = c.args in
    let few : 20 * c.loop-g.g + c.min-count.result ≤ args.n = omega (arith, c.min-count.ensures, more, min-le_right 20 (args.n - 20 * c.loop-g.g)) in
    group_inside (length args.samples.now) args.n args.channels c.loop-g.g c.min-count.result few c.requires.whole

-- the output is as long as it was
long : (c : At-loop-g) → length c.loop-g.out ≡ length c.args.out.now
long c =
    let args = c.args in
    let below : c.loop-g.g ≤ slices_of args.n = omega (arith, c.slices_of-slices.ensures, c.loop-g.invariant.0) in
    let fits : args.at + args.channels * 8 * c.loop-g.g ≤ length args.out.now = words_before (length args.out.now) args.at args.channels c.loop-g.g (slices_of args.n) below c.requires.room in
    rw c.loop-g.invariant.3 (length_blocks (args.channels * 8) _ (λ g. length_words args.channels _) args.out.now args.at c.loop-g.g fits)

pub overflow_mul-done-in-loop-g : goal.overflow_mul-done-in-loop-g
overflow_mul-done-in-loop-g c =
    let p = goal.at.overflow_mul-done-in-loop-g c in
    omega (arith, inside p.After-min-count (some p.In-loop-g).0)

pub put_group-after-requires : goal.put_group-after-requires
put_group-after-requires c =
    let p = goal.at.put_group-after-requires c in
    let args = c.args in
    let more = some p.In-loop-g in
    record {
      small = (c.requires.small.1, omega (arith, c.min-count.ensures, more), omega (arith, c.min-count.ensures, min-le_left 20 (args.n - 20 * c.loop-g.g)));
      whole = inside p.After-min-count more.0;
      room = omega (arith, room p.In-loop-g, long p.At-loop-g);
      weights = λ j h.
          rw (c.loop-g.invariant.2 j h)
          (within_more (omega (arith, more)) (before_within (lms_of args.states j) (strided args.n args.samples.now j args.channels) c.loop-g.g (omega (arith, more, strided_length args.n args.samples.now j args.channels)) (c.requires.weights j h)));
    }

-- the predictors after the group
states_again : (c : After-put_group-after) → 20 * c.loop-g.g < c.args.n →
    (k : ℕ) → k < c.args.channels → lms_of c.put_group-after.result k ≡ lms_before (lms_of c.args.states k) (strided c.args.n c.args.samples.now k c.args.channels) (c.loop-g.g + 1)
states_again c more k h =
    let args = c.args in
    rw (c.put_group-after.ensures.states, add-one)
    (written_here _ c.loop-g.next args.channels k no_lms h (omega (arith, c.loop-g.invariant.1, c.requires.small.1))
    ∙ rw c.min-count.ensures (next_lms args.n args.channels args.samples.now (lms_of args.states k) k c.loop-g.g more (lms_of c.loop-g.next k) (c.loop-g.invariant.2 k h)))

-- and the group's bytes behind those before it
bytes_again : (c : After-put_group-after) → 20 * c.loop-g.g < c.args.n → c.args.at + 8 * (c.loop-g.g * c.args.channels) + 8 * c.args.channels ≤ length c.args.out.now →
    c.put_group-after.new.out ≡ laid_over c.args.out.now c.args.at (good (laid (c.loop-g.g + 1) (group c.args.states c.args.samples.now c.args.n c.args.channels)))
bytes_again c more fits =
    let args = c.args in
    let g = c.loop-g.g in
    c.put_group-after.ensures.bytes
    ∙ rw (
      c.min-count.ensures,
      laid_ext args.channels _ (λ j. bytes_of 8 (slice_word (lms_of args.states j) (strided args.n args.samples.now j args.channels) g))
          (λ j h. ap (bytes_of 8) (next_word args.n args.channels args.samples.now (lms_of args.states j) j g more (lms_of c.loop-g.next j) (c.loop-g.invariant.2 j h))),
      c.loop-g.invariant.3,
      add-one,
    )
    (next_block (args.channels * 8) (group args.states args.samples.now args.n args.channels) (λ i. length_words args.channels _) args.out.now args.at g (args.at + 8 * (g * args.channels)) (omega arith) (omega (arith, fits)))

pub loop-g-preserved : goal.loop-g-preserved
loop-g-preserved c =
    let p = goal.at.loop-g-preserved c in
    let more = (some p.In-loop-g).0 in (
      omega arith,
      rw c.put_group-after.ensures.states (length_written _ _ _ _ _ ∙ c.loop-g.invariant.1),
      states_again p.After-put_group-after more,
      bytes_again p.After-put_group-after more (room p.In-loop-g),
    )
