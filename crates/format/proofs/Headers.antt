-- Laws of a frame's header: where it is read, its word, its ranges, and when it passes the checks. Assumes nothing.
use Prim.Native.Nat.{ℕ, ◌+◌, ◌-◌, ◌*◌, ◌/◌, ◌%◌, ◌^◌, ◌≤◌, ◌<◌}
use mathlib.Core.Path.{◌≡◌, ap, ◌∙◌}
use mathlib.Core.List.{List, ◌++◌}
use mathlib.Core.Option.{none, some}
use native.Mathlib.Nat.{add_assoc, add-zero, zero-add, mul-le-mul}
use native.Mathlib.Omega.{arith}
use lib.ListN.{length, get_or, take, drop, get_or-append}
use lib.Seq.{get_or-take, get_or-drop, get_or-append-add}
use Rattle.refusal.specs.Rules.{Answer, good, refused, first_of, after}
use Rattle.word.specs.Bytes.{be, be64, bytes_of}
use Rattle.word.proofs.BytesLaws.{be_ext, be_lt_bits, byte_at, length_bytes, put_at}
use Rattle.refusal.proofs.Rules.{Quiet, after_good, good_after, good_same, refused_at}
use Rattle.word.proofs.Tests.{tests}
use Rattle.format.specs.Format.{slices_of, state_end, frame_length}
use Rattle.format.specs.Header.{header_at, header_word, header_rules, short_rules, left_at, good_header}
use Rattle.format.specs.Grammar.{Passes}
use Rattle.format.specs.declared.frame.FrameHeader.{FrameHeader}
use Rattle.word.proofs.Fields.{AreBytes, Stored, be_field, stored_field}
use Rattle.format.specs.Parts.{header_fields}
use Rattle.word.specs.Parts.{put}

-- ---- where a header is read: it is that of its 8 bytes

pub header_ext : (bs cs : List ℕ) (p q : ℕ) → ((i : ℕ) → i < 8 → get_or bs (p + i) 0 ≡ get_or cs (q + i) 0) → header_at bs p ≡ header_at cs q
unfolding header_at
header_ext bs cs p q same =
    let part : (n k : ℕ) → k + n ≤ 8 → be n bs (p + k) ≡ be n cs (q + k) =
    λ n k room. be_ext n bs cs (p + k) (q + k) (λ i h. rw (add_assoc p k i, add_assoc q k i) (same (k + i) (omega arith))) in
    let channels : be 1 bs p ≡ be 1 cs q = be_ext 1 bs cs p q (λ i h. same i (omega arith)) in
    let rate = part 3 1 (omega arith) in
    let samples = part 2 4 (omega arith) in
    let size = part 2 6 (omega arith) in
    λ i. record { channels = channels i; rate = rate i; samples = samples i; size = size i }

pub header_drop : (k : ℕ) (bs : List ℕ) (p : ℕ) → header_at (drop k bs) p ≡ header_at bs (k + p)
header_drop k bs p = header_ext (drop k bs) bs p (k + p) (λ i h. rw (get_or-drop, add_assoc))

pub header_take : (k : ℕ) (bs : List ℕ) (p : ℕ) → p + 8 ≤ k → header_at (take k bs) p ≡ header_at bs p
header_take k bs p room = header_ext (take k bs) bs p p (λ i h. get_or-take k bs (p + i) 0 (omega arith))

pub header_append : (xs ys : List ℕ) (p : ℕ) → p + 8 ≤ length xs → header_at (xs ++ ys) p ≡ header_at xs p
header_append xs ys p room = header_ext (xs ++ ys) xs p p (λ i h. get_or-append xs ys 0 (p + i) (omega arith))

pub header_past : (xs ys : List ℕ) (p : ℕ) → header_at (xs ++ ys) (length xs + p) ≡ header_at ys p
header_past xs ys p = header_ext (xs ++ ys) ys (length xs + p) p (λ i h. rw add_assoc (get_or-append-add xs ys (p + i) 0))

-- ---- a header and its word

-- each field has its own width
pub record InRange (h : FrameHeader) : Type 0 where
  pub channels_small : h.channels < 2 ^ 8
  pub rate_small : h.rate < 2 ^ 24
  pub samples_small : h.samples < 2 ^ 16
  pub size_small : h.size < 2 ^ 16

pub header_small : (bs : List ℕ) (p : ℕ) → AreBytes bs → InRange (header_at bs p)
unfolding header_at
header_small bs p bytes =
    record {
      channels_small = be_lt_bits 1 bs p bytes;
      rate_small = be_lt_bits 3 bs (p + 1) bytes;
      samples_small = be_lt_bits 2 bs (p + 4) bytes;
      size_small = be_lt_bits 2 bs (p + 6) bytes;
    }

-- the fields of the word of 8 bytes are the numbers in the bytes
pub fields_of_bytes : (bs : List ℕ) (p : ℕ) → AreBytes bs → header_fields (be64 bs p) ≡ header_at bs p
unfolding header_fields header_at
fields_of_bytes bs p bytes =
    let channels = rw add-zero at (be_field 0 1 7 bs p bytes) in
    let rate = be_field 1 3 4 bs p bytes in
    let samples = be_field 4 2 2 bs p bytes in
    let size = be_field 6 2 0 bs p bytes in
    λ i. record { channels = channels i; rate = rate i; samples = samples i; size = size i }

-- taking a word apart undoes putting it together
pub fields_of_word : (h : FrameHeader) → InRange h → header_fields (header_word h) ≡ h
unfolding header_fields header_word
fields_of_word h s =
    let w = header_word h in
    let channels : w / 2 ^ 56 % 2 ^ 8 ≡ h.channels = omega arith in
    let rate : w / 2 ^ 32 % 2 ^ 24 ≡ h.rate = omega arith in
    let samples : w / 2 ^ 16 % 2 ^ 16 ≡ h.samples = omega arith in
    let size : w / 2 ^ 0 % 2 ^ 16 ≡ h.size = omega arith in
    λ i. record { channels = channels i; rate = rate i; samples = samples i; size = size i }

pub word_small : (h : FrameHeader) → InRange h → header_word h < 2 ^ 64
unfolding header_word
word_small h s = omega arith

-- ---- a stored header is read back

pub header_stored : (bs : List ℕ) (p : ℕ) (h : FrameHeader) → InRange h → Stored 8 (header_word h) bs p → header_at bs p ≡ h
unfolding header_at header_fields
header_stored bs p h s stored =
    let w = header_word h in
    let small = word_small h s in
    let channels = rw add-zero at (stored_field 0 1 7 w bs p stored small) in
    let rate = stored_field 1 3 4 w bs p stored small in
    let samples = stored_field 4 2 2 w bs p stored small in
    let size = stored_field 6 2 0 w bs p stored small in
    let fields : header_at bs p ≡ header_fields w = λ i. record { channels = channels i; rate = rate i; samples = samples i; size = size i } in
    fields ∙ fields_of_word h s

pub header_of_put : (out : List ℕ) (p : ℕ) (h : FrameHeader) → InRange h → p + 8 ≤ length out → header_at (put 8 out p (header_word h)) p ≡ h
header_of_put out p h s room = header_stored (put 8 out p (header_word h)) p h s (λ i l. put_at 8 out p (header_word h) i l room)

pub header_of_bytes : (h : FrameHeader) (rest : List ℕ) → InRange h → header_at (bytes_of 8 (header_word h) ++ rest) 0 ≡ h
header_of_bytes h rest s =
    let w = header_word h in
    header_stored (bytes_of 8 w ++ rest) 0 h s (λ i l. rw zero-add (get_or-append (bytes_of 8 w) rest 0 i (rw length_bytes l) ∙ byte_at 8 w i l))

-- ---- the checks

-- the rules are quiet exactly where the checks pass
pub passes : (h : FrameHeader) → Quiet (header_rules h) → Passes h
unfolding header_rules
passes h q = omega (arith, tests)

pub quiet_header : (h : FrameHeader) → Passes h → Quiet (header_rules h)
unfolding header_rules
quiet_header h p = omega (arith, tests)

-- what a good header at a place says, and the other way round
pub record GoodAt (bs : List ℕ) (p : ℕ) (h : FrameHeader) : Type 0 where
  pub there : p + 8 ≤ length bs
  pub same : header_at bs p ≡ h
  pub checked : Passes h

pub header_good : (bs : List ℕ) (p : ℕ) (h : FrameHeader) → good_header bs p ≡ good h → GoodAt bs p h
unfolding good_header
header_good bs p h e =
    let long = after_good (short_rules (left_at bs p)) (after (header_rules (header_at bs p)) (good (header_at bs p))) h e in
    let quiet = after_good (header_rules (header_at bs p)) (good (header_at bs p)) h long.1 in
    let same : header_at bs p ≡ h = good_same (header_at bs p) h quiet.1 in
    record { there = omega (arith, tests); same = same; checked = rw same at (passes (header_at bs p) quiet.0) }

pub good_header_lem : (bs : List ℕ) (p : ℕ) (h : FrameHeader) → GoodAt bs p h → good_header bs p ≡ good h
unfolding good_header
good_header_lem bs p h g =
    let long : Quiet (short_rules (left_at bs p)) = omega (arith, tests) in
    let quiet : Quiet (header_rules (header_at bs p)) = rw g.same (quiet_header h g.checked) in
    good_after (short_rules (left_at bs p)) (after (header_rules (header_at bs p)) (good (header_at bs p))) long
    ∙ good_after (header_rules (header_at bs p)) (good (header_at bs p)) quiet
    ∙ ap {B = Answer FrameHeader} good g.same

-- a place with fewer than 8 bytes, a header that a check refuses, one that no check refuses
module _ (bs : List ℕ) (p : ℕ) where
  pub short_header : length bs - p < 8 → good_header bs p ≡ refused 5
  unfolding good_header
  short_header h = refused_at 0 (short_rules (left_at bs p)) 5 (after (header_rules (header_at bs p)) (good (header_at bs p))) (omega (arith, tests))

  whole_header : p + 8 ≤ length bs → good_header bs p ≡ after (header_rules (header_at bs p)) (good (header_at bs p))
  unfolding good_header
  whole_header h = good_after (short_rules (left_at bs p)) (after (header_rules (header_at bs p)) (good (header_at bs p))) (omega (arith, tests))

  pub refused_header : (n : ℕ) → p + 8 ≤ length bs → first_of (header_rules (header_at bs p)) ≡ some n → good_header bs p ≡ refused n
  refused_header n h e = whole_header h ∙ rw e

  pub passed_header : p + 8 ≤ length bs → first_of (header_rules (header_at bs p)) ≡ none → good_header bs p ≡ good (header_at bs p)
  passed_header h e = whole_header h ∙ rw e

-- ---- a frame's length

-- a frame holds its header and its predictor states
pub frame_long : (c n : ℕ) → state_end c ≤ frame_length c n
unfolding frame_length
frame_long c n = omega arith

-- whatever the header's two fields are, its slices and its bytes are few
pub slices_small : {c n : ℕ} → c ≤ 255 → n ≤ 65535 → c * slices_of n ≤ 255 * 3277
unfolding slices_of
slices_small {n = n} hc hn = let most : slices_of n ≤ 3277 = omega arith in mul-le-mul hc most

pub frame_small : {c n : ℕ} → c ≤ 255 → n ≤ 65535 → frame_length c n < 2 ^ 23
unfolding frame_length state_end
frame_small hc hn = let few = slices_small hc hn in omega arith
