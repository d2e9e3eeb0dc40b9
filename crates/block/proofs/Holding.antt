-- What is stored of a state is what its view shows, and what is read has the block's view. Assumes nothing.
use Prim.Native.Nat.{ℕ, ◌+◌, ◌-◌, ◌≤◌, ◌<◌}
use mathlib.Core.Bool.{Bool, true, false, cond}
use mathlib.Core.List.{List}
use mathlib.Core.Path.{◌≡◌, refl, sym, ap, ◌∙◌}
use borrow.Author.Tests.{le-ltb, lt-leb, lt-ltb, ltb-false, ltb-true}
use native.Mathlib.Nat.{mul-one}
use native.Mathlib.Omega.{arith}
use lib.Dec.{leb, lit<, ltb}
use lib.IntN.{ℤ, pos}
use lib.ListN.{get_or, length, get_or-eq_default}
use Rattle.wrap.specs.Wrap.{low16}
use Rattle.word.specs.Bytes.{bytes_of}
use Rattle.word.specs.Table.{table}
use Rattle.word.proofs.Tables.{get_or_table, length_table, table_ext}
use Rattle.word.proofs.Writes.{written_at}
use Rattle.lms.specs.declared.QoaLms.{QoaLms}
use Rattle.format.specs.Format.{pending_len}
use Rattle.format.specs.Predictor.{lms_of, no_lms}
use Rattle.body.specs.Laid.{laid}
use Rattle.body.proofs.Laids.{laid_ext}
use Rattle.lms.specs.Predictor.{zero_lms}
use Rattle.state.specs.View.{view}
use Rattle.state.specs.declared.QoaDecoder.{QoaDecoder}
use Rattle.block.specs.DecoderBlock.{pending_at, pending_bytes}
use Rattle.block.specs.Predictors.{four_bytes, predictor_bytes}
use Rattle.word.specs.Parts.{written}

-- ---- predictors

-- none is as good as zero
zero_bytes : predictor_bytes zero_lms ≡ predictor_bytes no_lms
unfolding predictor_bytes four_bytes laid
zero_bytes = refl

-- a channel's, or none
pub held_bytes : (states : List QoaLms) (channels j : ℕ) → predictor_bytes (cond (ltb j channels) (lms_of states j) zero_lms) ≡ predictor_bytes (lms_of (table channels (lms_of states)) j)
held_bytes states channels j = by (ltb j channels) refl
  where
    by : (b : Bool) → ltb j channels ≡ b → predictor_bytes (cond b (lms_of states j) zero_lms) ≡ predictor_bytes (lms_of (table channels (lms_of states)) j)
    by true e = ap predictor_bytes (sym (get_or_table channels (lms_of states) j no_lms (ltb-true j channels e)))
    by false e = zero_bytes ∙ ap predictor_bytes (sym (get_or-eq_default (table channels (lms_of states)) no_lms (omega (arith, length_table channels (lms_of states), ltb-false j channels e))))

-- ---- pending samples

-- the sample that the code holds at a place
abbrev pub sample_held : List ℤ → ℕ → ℕ → ℕ → ℤ
sample_held pending next end i = cond (ltb i next) (pos 0) (cond (ltb i end) (get_or pending i (pos 0)) (pos 0))

-- the same by the code's two tests
module _ (x : ℤ) (next end i : ℕ) (used : Bool) where
  pub held_from : next ≤ i → used ≡ ltb i end → cond used x (pos 0) ≡ cond (ltb i next) (pos 0) (cond (ltb i end) x (pos 0))
  held_from h e = simp (e, le-ltb i next h)

  pub held_below : i < next → used ≡ leb next i → cond used x (pos 0) ≡ cond (ltb i next) (pos 0) (cond (ltb i end) x (pos 0))
  held_below h e = simp (e, lt-leb next i h, lt-ltb i next h)

held_sample : (d : QoaDecoder) (i : ℕ) → sample_held d.pending d.next d.end i ≡ pending_at (view d) i
unfolding pending_at view
held_sample d i = by (ltb i d.next) (ltb i d.end) refl refl
  where
    shown : List ℤ
    shown = table (d.end - d.next) (λ k. get_or d.pending (d.next + k) (pos 0))

    by : (a b : Bool) → ltb i d.next ≡ a → ltb i d.end ≡ b → cond a (pos 0) (cond b (get_or d.pending i (pos 0)) (pos 0)) ≡ cond a (pos 0) (get_or shown (i - d.next) (pos 0))
    by true b e f = refl
    by false true e f =
        let from : d.next ≤ i = ltb-false i d.next e in
        let to : i < d.end = ltb-true i d.end f in
        let here : d.next + (i - d.next) ≡ i = omega arith in
        sym (get_or_table (d.end - d.next) (λ k. get_or d.pending (d.next + k) (pos 0)) (i - d.next) (pos 0) (omega arith) ∙ ap (λ (k : ℕ). get_or d.pending k (pos 0)) here)
    by false false e f =
        let from : d.next ≤ i = ltb-false i d.next e in
        let past : d.end ≤ i = ltb-false i d.end f in
        sym (get_or-eq_default shown (pos 0) (omega (arith, length_table (d.end - d.next) (λ k. get_or d.pending (d.next + k) (pos 0)))))

pub held_pending : (d : QoaDecoder) → laid pending_len (λ i. bytes_of 2 (low16 (sample_held d.pending d.next d.end i))) ≡ pending_bytes (view d)
unfolding pending_bytes
held_pending d =
    laid_ext pending_len (λ i. bytes_of 2 (low16 (sample_held d.pending d.next d.end i))) (λ i. bytes_of 2 (low16 (pending_at (view d) i)))
    (λ i l. ap (λ (z : ℤ). bytes_of 2 (low16 z)) (held_sample d i))

-- ---- a range that was stored

pub stored_range : {A : Type 0} (f : ℕ → A) (out : List A) (start n : ℕ) (d : A) → ((i : ℕ) → i < n → start + i < length out)
    → table n (λ i. get_or (written f out start 1 n) (start + i) d) ≡ table n f
stored_range f out start n d room =
    table_ext n (λ i. get_or (written f out start 1 n) (start + i) d) f (λ i l. rw mul-one at (written_at f out start 1 n i d (lit< tt) l (rw mul-one (room i l))))
