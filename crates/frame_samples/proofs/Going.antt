-- The next samples of a frame: what is decoded is what stands there in the frame's samples, and the decoder stands after them. Assumes nothing.
use Prim.Native.Nat.{ℕ, ◌+◌, ◌-◌, ◌*◌, ◌≤◌, min}
use mathlib.Core.Path.{◌≡◌, ap, sym, ◌∙◌}
use mathlib.Core.List.{List, ◌++◌}
use mathlib.Core.Option.{none}
use native.Mathlib.Nat.{mul-le-mul_right}
use native.Mathlib.Omega.{arith}
use lib.IntN.{ℤ, pos}
use lib.ListN.{get_or, length, take, drop, length-drop}
use lib.Seq.{get_or-drop, get_or-take, length-take-le}
use Rattle.refusal.specs.Rules.{first_of, good}
use Rattle.refusal.specs.Lent.{laid_over}
use Rattle.refusal.proofs.Lents.{over_front}
use Rattle.refusal.proofs.Rules.{none_fires}
use Rattle.word.specs.Little.{le_bytes}
use Rattle.word.specs.Table.{table}
use Rattle.word.proofs.LittleLaws.{length_bytes}
use Rattle.word.proofs.Tables.{table_ext, table_of}
use Rattle.word.proofs.Tests.{tests}
use Rattle.format.specs.Format.{slices_of}
use Rattle.file.specs.Frame.{frame_samples}
use Rattle.state.specs.View.{View, channels_of, total, view, waiting}
use Rattle.into.specs.Into.{IntoDone, coming_at, into_after, into_count, into_groups, into_rules}
use Rattle.refusal.specs.declared.Done.{Done}
use Rattle.refusal.specs.declared.Refusal.{Refusal}
use Rattle.state.specs.declared.QoaDecoder.{QoaDecoder}
use Rattle.std.specs.Prelude.{Result}
use Rattle.into.proofs.Counts.{groups_within_frame}
use Rattle.into.proofs.Onward.{coming_onward, end_onward, total_onward}
use Rattle.decoder.proofs.GoodAfter.{into_after_good}
use Rattle.frame_samples.specs.Places.{After, StandsAt}
use Rattle.frame_samples.specs.Blocks.{BlockDone, next_count, next_samples}
use Rattle.frame_samples.specs.declared.InFrame.{InFrame}

module _ (f : List ℕ) (done : ℕ) (v : View) (s : StandsAt f done v) (room : ℕ) where
  pub count_is : into_count v room ≡ next_count f done room
  count_is = omega (arith, s.left)

  -- nothing is refused
  pub accepted : first_of (into_rules f v room) ≡ none
  unfolding into_rules
  accepted =
      let few = groups_within_frame (channels_of v) (into_count v room - waiting v) v.remaining (omega arith) in
      let fewer : into_groups v room * channels_of v ≤ slices_of v.remaining * channels_of v = mul-le-mul_right (channels_of v) few in
      none_fires (into_rules f v room) (rw s.passes (tt, (omega (arith, tests, s.whole), tt)))

  pub samples_are : table (into_count v room) (coming_at f v) ≡ next_samples f done room
  samples_are =
      let n : ℕ = into_count v room in
      let next : List ℤ = take n (drop done (frame_samples f)) in
      let long : length next ≡ n = length-take-le n (drop done (frame_samples f)) (omega (arith, s.left, length-drop done (frame_samples f))) in
      table_ext n (coming_at f v) (λ i. get_or next i (pos 0))
      (λ i h. s.coming i (omega arith) ∙ sym (get_or-take n (drop done (frame_samples f)) i (pos 0) h ∙ get_or-drop done (frame_samples f) i (pos 0)))
      ∙ table_of n next (pos 0) long
      ∙ ap (λ (k : ℕ). take k (drop done (frame_samples f))) count_is

  pub stands_after : v.frame.samples ≤ 65535 → StandsAt f (done + next_count f done room) (into_after f v room)
  stands_after small =
      let k : ℕ = into_count v room in
      let there : k ≤ total v = omega arith in
      record {
        passes = into_after_good f v small room accepted;
        whole = rw (end_onward f v k there) s.whole;
        left = omega (arith, s.left, total_onward f v k there, count_is);
        coming = λ i h.
            let place : done + (k + i) ≡ done + next_count f done room + i = omega (arith, count_is) in
            coming_onward f v k there i h ∙ s.coming (k + i) (omega (arith, total_onward f v k there)) ∙ ap (λ (j : ℕ). get_or (frame_samples f) j (pos 0)) place;
      }

pub length_next : (f : List ℕ) (done room : ℕ) → length (next_samples f done room) ≡ next_count f done room
length_next f done room = length-take-le (next_count f done room) (drop done (frame_samples f)) (omega (arith, length-drop done (frame_samples f)))

-- the bytes of samples, and then what was there
bytes_laid : (bytes : List ℕ) (xs : List ℤ) (n : ℕ) → length xs ≡ n → le_bytes xs ++ drop (n * 2) bytes ≡ laid_over bytes 0 (good (le_bytes xs))
unfolding laid_over
bytes_laid bytes xs n long = rw (length_bytes, long)

-- the call keeps its promise
pub block_done : (f : List ℕ) (p : InFrame) (block : List ℤ) (bytes : List ℕ) (made : Done (Result ℕ Refusal) QoaDecoder) (block' : List ℤ) (bytes' : List ℕ) (n : ℕ)
    → After f p → p.decoder.frame.samples ≤ 65535
    → n ≡ min (length block) (total (view p.decoder))
    → IntoDone f p.decoder block made block'
    → bytes' ≡ le_bytes (take n block') ++ drop (n * 2) bytes
    → BlockDone f p block bytes (record { count = n; place = record { decoder = made.state; done = p.done + n } }) block' bytes'
unfolding view
block_done f p block bytes made block' bytes' n a small n-is i put_is =
    let v : View = view p.decoder in
    let room : ℕ = length block in
    let quiet = accepted f p.done v a room in
    let count : n ≡ next_count f p.done room = n-is ∙ count_is f p.done v a room in
    let next : List ℤ = next_samples f p.done room in
    let view-is : view made.state ≡ into_after f v room = rw quiet at i.left in
    let stored : block' ≡ laid_over block 0 (good next) = (rw quiet at i.stored) ∙ ap (λ (l : List ℤ). laid_over block 0 (good l)) (samples_are f p.done v a room) in
    let front : take n block' ≡ next = ap (take n) stored ∙ over_front block next n (length_next f p.done room ∙ sym count) in
    record {
      count = count;
      samples = stored;
      written = put_is ∙ ap (λ (l : List ℤ). le_bytes l ++ drop (n * 2) bytes) front ∙ bytes_laid bytes next n (length_next f p.done room ∙ sym count);
      done = ap (λ (k : ℕ). p.done + k) count;
      after = rw (view-is, count) (stands_after f p.done v a room small);
    }
