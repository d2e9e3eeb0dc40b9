-- A file is accepted exactly where the grammar has a cut of it, and there is no other cut. Assumes nothing.
use Prim.Native.Nat.{ℕ, ◌≤◌}
use mathlib.Core.Path.{◌≡◌, sym, ap₂, ◌∙◌}
use mathlib.Core.Bool.{Bool, true}
use mathlib.Core.List.{List, ◌∷◌, ◌++◌}
use native.Mathlib.Omega.{arith}
use lib.Dec.{T, lit≤}
use lib.ListN.{length, take, drop, length-append, take-append-drop}
use lib.Seq.{take_at, drop_at, length-take-le}
use Rattle.word.specs.Bytes.{be32}
use Rattle.refusal.specs.Rules.{good, after, ◌then◌}
use Rattle.word.proofs.BytesLaws.{be_append, be_take}
use Rattle.refusal.proofs.Rules.{Quiet, none_fires, after_good, then_good, good_same}
use Rattle.word.proofs.Tests.{tests, nnot, notn}
use Rattle.format.specs.FileHeader.{file_rules, is_fixed, magic, total_of}
use Rattle.format.specs.Header.{header_at}
use Rattle.format.specs.Part.{length_of}
use Rattle.format.specs.Grammar.{Cut, Each, IsCut, IsFrame, cut_bytes, joined, tail_ok}
use Rattle.file.specs.Walk.{Walk, past_frame, frame_at, rules_at, walk_of}
use Rattle.file.specs.Whole.{body, body_for, cut_of, like_first, some_rules, whole_file, with_first}
use Rattle.file.proofs.Frames.{after_frame_lem, frame_at_lem, frame_eight, frame_starts, is_frame, quiet_frame, starts, whole_file_fit}
use Rattle.file.proofs.Walks.{Walked, walked, walks}

-- the file header
pub record HeadGood (b : List ℕ) : Type 0 where
  pub long : 8 ≤ length b
  pub is_magic : be32 b 0 ≡ magic

pub head_good : (b : List ℕ) → Quiet (file_rules b) → HeadGood b
unfolding file_rules
head_good b q = record { long = omega (arith, tests); is_magic = omega (arith, tests) }

pub quiet_head : (b : List ℕ) → HeadGood b → Quiet (file_rules b)
unfolding file_rules
quiet_head b h = omega (arith, tests)

-- the first frame and those after it, where c and r are given
module _ (fixed : Bool) (c r : ℕ) where
  found : (b : List ℕ) (w : Walk) → body_for fixed c r b ≡ good w
      → IsFrame c r (frame_at b) × Walked (whole_file fixed c r) (IsFrame c r) (past_frame b) w
  unfolding body_for
  found b w e =
      let rest = walk_of (whole_file fixed c r) (past_frame b) in
      let some = after_good (some_rules b) (after (rules_at (like_first fixed c r) b) rest) w e in
      let passed = after_good (rules_at (like_first fixed c r) b) rest w some.1 in
      (is_frame c r b (starts fixed c r b passed.0), walked (whole_file fixed c r) (IsFrame c r) (whole_file_fit fixed c r) (past_frame b) w passed.1)

  finds : (f : List ℕ) (fs : List (List ℕ)) (t : List ℕ) → IsFrame c r f → Each (IsFrame c r) fs → T (tail_ok (length t) true)
      → body_for fixed c r (f ++ joined fs t) ≡ good (record { frames = fs; tail = t })
  unfolding body_for
  finds f fs t i is k =
      let b = f ++ joined fs t in
      let s = frame_starts c r f (joined fs t) i in
      let n : Quiet (some_rules b) = omega (arith, tests, frame_eight (header_at b 0)) in
      let rest = walks (whole_file fixed c r) (IsFrame c r) (whole_file_fit fixed c r) fs t is (notn (tail_ok (length t) true) k, tt) in
      rw (after_frame_lem f (joined fs t) i.whole, none_fires (some_rules b) n, none_fires (rules_at (like_first fixed c r) b) (quiet_frame fixed c r b s), rest)

-- frames of c channels and rate r are those of the same numbers in another spelling
pub same_frames : (fs : List (List ℕ)) {c d r s : ℕ} → d ≡ c → s ≡ r → Each (IsFrame c r) fs → Each (IsFrame d s) fs
same_frames fs e q h = rw (e, q) h

-- the reader's cut is one of the grammar
pub sound : (b : List ℕ) (k : Cut) → cut_of b ≡ good k → IsCut k b
unfolding cut_of
sound b k e =
    let rest = drop 8 b in
    let head = after_good (file_rules b) (body (is_fixed (total_of b)) rest then with_first (take 8 b) (frame_at rest)) k e in
    let w = then_good (body (is_fixed (total_of b)) rest) (with_first (take 8 b) (frame_at rest)) k head.1 in
    let parts = found (is_fixed (total_of b)) (header_at rest 0).channels (header_at rest 0).rate rest w.0 w.1 in
    let long = head_good b head.0 in
    let same : record { head = take 8 b; first = frame_at rest; others = w.0.frames; tail = w.0.tail } ≡ k = good_same _ k w.2 in
    rw (← same) (record {
      head_whole = length-take-le 8 b long.long;
      head_magic = be_take 4 8 b 0 (lit≤ tt) ∙ long.is_magic;
      frames = same_frames (frame_at rest ∷ w.0.frames) parts.0.same_channels parts.0.same_rate (parts.0, parts.1.frames);
      tail_ok = nnot (tail_ok (length w.0.tail) true) parts.1.tail_ok.0;
      bytes = rw (parts.1.bytes, take-append-drop (length_of (header_at rest 0)) rest) (take-append-drop 8 b);
    })

-- a cut of the grammar is what the reader finds
pub complete : (b : List ℕ) (k : Cut) → IsCut k b → cut_of b ≡ good k
unfolding cut_of
complete b k i =
    let c = (header_at k.first 0).channels in
    let r = (header_at k.first 0).rate in
    let rest = joined (k.first ∷ k.others) k.tail in
    let first = frame_starts c r k.first (joined k.others k.tail) i.frames.0 in
    let magic-kept = be_append 4 k.head rest 0 (omega arith) in
    let head-kept : HeadGood (k.head ++ rest) = record { long = omega (arith, length-append k.head rest); is_magic = magic-kept ∙ i.head_magic } in
    let found : body (is_fixed (total_of (cut_bytes k))) rest ≡ good (record { frames = k.others; tail = k.tail }) =
    ap₂ (λ x y. body_for (is_fixed (total_of (cut_bytes k))) x y rest) first.same_channels first.same_rate
    ∙ finds (is_fixed (total_of (cut_bytes k))) c r k.first k.others k.tail i.frames.0 i.frames.1 i.tail_ok in
    rw (← i.bytes, none_fires (file_rules (cut_bytes k)) (quiet_head (cut_bytes k) head-kept), drop_at k.head rest 8 i.head_whole, take_at k.head rest 8 i.head_whole, found, frame_at_lem k.first (joined k.others k.tail) i.frames.0.whole)

-- so there is at most one
pub one_cut : (b : List ℕ) (k l : Cut) → IsCut k b → IsCut l b → k ≡ l
one_cut b k l i j = good_same k l (sym (complete b k i) ∙ complete b l j)
