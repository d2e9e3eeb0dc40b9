-- `body::put_group` meets its contract. The invariant: the first `j` channels are searched, in the predictors and in `out`.
-- Assumes nothing.
use mathlib.Core.Path.{◌≡◌, refl, sym, ap, ◌∙◌}
use Prim.Native.Nat.{ℕ, ◌+◌, ◌*◌}
use native.Mathlib.Nat.{mul-one, zero-add}
use native.Mathlib.Numerals.{add-one}
use native.Mathlib.Omega.{arith}
use lib.ListN.{length}
use Rattle.word.specs.Bytes.{bytes_of}
use Rattle.word.specs.Parts.{written}
use Rattle.word.proofs.BytesLaws.{length_bytes}
use Rattle.word.proofs.Writes.{written_other}
use Rattle.lms.specs.declared.QoaLms.{QoaLms}
use Rattle.format.specs.Predictor.{lms_of, no_lms}
use Rattle.search.specs.Search.{encoded_slice, strided}
use Rattle.body.specs.Laid.{laid}
use Rattle.body.proofs.Channels.{last_inside}
use Rattle.body.proofs.Laids.{length_blocks, next_block}
use Rattle.refusal.proofs.Lents.{over_nil, over_put}
use Rattle.body.proofs.put_group.Invariants.{found}
use Rattle.body.proofs.put_group.Goals as goal
use Rattle.body.proofs.put_group.Goals.{After-encode_slice-slice, At-loop-j}

pub loop-j-init : goal.loop-j-init
unfolding written laid
loop-j-init c = (omega arith, refl, sym (over_nil _ _))

-- a channel's predictor stands until its own turn
state_is : (c : At-loop-j) → lms_of c.loop-j.next c.loop-j.j ≡ lms_of c.args.states c.loop-j.j
state_is c =
    let j = c.loop-j.j in
    rw c.loop-j.invariant.1 (written_other _ c.args.states 0 1 j j no_lms (λ i h e. omega (arith, mul-one i)))

-- what the search found
found_is : (c : After-encode_slice-slice) → lms_of c.loop-j.next c.loop-j.j ≡ lms_of c.args.states c.loop-j.j → c.encode_slice-slice.result ≡ found c.args.states c.args.samples.now c.args.start c.args.count c.args.channels c.loop-j.j
found_is c same =
    c.encode_slice-slice.ensures ∙ ap (λ (s : QoaLms). encoded_slice s (strided c.args.count c.args.samples.now (c.args.start + c.loop-j.j) c.args.channels)) same

-- the output is as long as it was
long : (c : At-loop-j) → length c.loop-j.out ≡ length c.args.out.now
long c =
    let args = c.args in
    rw c.loop-j.invariant.2 (length_blocks 8 _ (λ k. length_bytes 8 _) args.out.now args.at c.loop-j.j (omega (arith, c.requires.room)))

pub encode_slice-slice-requires : goal.encode_slice-slice-requires
encode_slice-slice-requires c =
    let few = c.requires.small in
    record {
      weights_within = rw (state_is (goal.at.encode_slice-slice-requires c).At-loop-j) (c.requires.weights c.loop-j.j c.loop-j-test.true);
      n_nonzero = (few.1, few.2, last_inside _ c.args.start c.loop-j.j c.args.channels c.args.count few.1 c.loop-j-test.true c.requires.whole);
    }

pub loop-j-preserved : goal.loop-j-preserved
unfolding written
loop-j-preserved c =
    let l = (goal.at.loop-j-preserved c).At-loop-j in
    let args = c.args in
    let j = c.loop-j.j in
    let word : ℕ → ℕ = λ k. (found args.states args.samples.now args.start args.count args.channels k).word in
    let same = found_is (goal.at.loop-j-preserved c).After-encode_slice-slice (state_is l) in (
      omega arith,
      rw (add-one, zero-add, mul-one, same, c.loop-j.invariant.1),
      -- the word is stored behind those of the channels before it
      c.write_be.ensures
          ∙ over_put c.loop-j.out (args.at + 8 * j) 8 c.encode_slice-slice.result.word (omega (arith, long l, c.requires.room))
          ∙ rw (same, c.loop-j.invariant.2, add-one) (next_block 8 (λ k. bytes_of 8 (word k)) (λ k. length_bytes 8 (word k)) args.out.now args.at j (args.at + 8 * j) refl (omega (arith, c.requires.room))),
    )
