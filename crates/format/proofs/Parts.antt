-- The frame part is given exactly where a whole good frame stands. Assumes nothing.
use Prim.Native.Nat.{ℕ, ◌+◌, ◌-◌, ◌≤◌, ◌<◌}
use mathlib.Core.Path.{◌≡◌, refl, sym, ap, ◌∙◌}
use mathlib.Core.List.{List}
use native.Mathlib.Omega.{arith}
use lib.ListN.{length}
use Rattle.refusal.specs.Rules.{Answer, good, refused, after}
use Rattle.refusal.proofs.Rules.{Quiet, after_good, good_after, then_good, good_same, refused_at}
use Rattle.word.proofs.Tests.{tests}
use Rattle.format.specs.Format.{state_end}
use Rattle.format.specs.Header.{header_at, good_header, left_at}
use Rattle.format.specs.Part.{cut_rules, length_of, part_length}
use Rattle.format.specs.Grammar.{Passes}
use Rattle.format.specs.declared.frame.FrameHeader.{FrameHeader}
use Rattle.format.proofs.Headers.{header_good, good_header_lem, frame_long}

-- a whole good frame of n bytes stands at a place
pub record Stands (bs : List ℕ) (p n : ℕ) : Type 0 where
  pub checked : Passes (header_at bs p)
  pub long : n ≡ length_of (header_at bs p)
  pub within : p + n ≤ length bs

abbrev whole : List ℕ → ℕ → FrameHeader → Answer ℕ
whole bs p h = after (cut_rules (length_of h) (left_at bs p)) (good (length_of h))

pub part_stands : (bs : List ℕ) (p n : ℕ) → part_length bs p ≡ good n → Stands bs p n
unfolding part_length
part_stands bs p n e =
    let got = then_good (good_header bs p) (whole bs p) n e in
    let h = got.0 in
    let head = header_good bs p h got.1 in
    let fits = after_good (cut_rules (length_of h) (left_at bs p)) (good (length_of h)) n got.2 in
    let long : length_of h ≡ n = good_same (length_of h) n fits.1 in
    record {
      checked = rw head.same head.checked;
      long = sym (ap length_of head.same ∙ long);
      within = omega (arith, tests);
    }

pub stands_part : (bs : List ℕ) (p n : ℕ) → Stands bs p n → part_length bs p ≡ good n
unfolding part_length state_end
stands_part bs p n s =
    let h = header_at bs p in
    let least = frame_long h.channels h.samples in
    let head = good_header_lem bs p h (record { there = omega arith; same = refl; checked = s.checked }) in
    let quiet : Quiet (cut_rules (length_of h) (left_at bs p)) = omega (arith, tests) in
    rw head (good_after (cut_rules (length_of h) (left_at bs p)) (good (length_of h)) quiet ∙ ap {B = Answer ℕ} good (sym s.long))

-- the part's answer, from the header's
module _ (bs : List ℕ) (p : ℕ) where
  pub refused_part : (n : ℕ) → good_header bs p ≡ refused n → part_length bs p ≡ refused n
  unfolding part_length
  refused_part n e = rw e

  pub cut_part : (h : FrameHeader) → good_header bs p ≡ good h → length bs - p < length_of h → part_length bs p ≡ refused 5
  unfolding part_length
  cut_part h e l = rw e (refused_at 0 (cut_rules (length_of h) (left_at bs p)) 5 (good (length_of h)) (omega (arith, tests)))

  pub whole_part : (h : FrameHeader) → good_header bs p ≡ good h → length_of h ≤ length bs - p → part_length bs p ≡ good (length_of h)
  unfolding part_length
  whole_part h e l = rw e (good_after (cut_rules (length_of h) (left_at bs p)) (good (length_of h)) (omega (arith, tests)))

-- a whole part ends within the bytes
pub part_within : (bs : List ℕ) (p n : ℕ) → part_length bs p ≡ good n → p + n ≤ length bs
part_within bs p n e = (part_stands bs p n e).within
