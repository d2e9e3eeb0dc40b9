-- A text that grows, and stores in a row. Assumes nothing.
use mathlib.Core.Path.{◌≡◌, refl, sym, ap, ◌∙◌}
use mathlib.Core.List.{List, [], ◌++◌, append_assoc, append-nil}
use Prim.Native.Nat.{ℕ, ◌+◌, ◌≤◌, ◌<◌}
use native.Mathlib.Nat.{mul-one, zero-add}
use native.Mathlib.Numerals.{add-one}
use native.Mathlib.Omega.{arith}
use borrow.Rule.Slice.PartMut.{put_mid}
use lib.ListN.{length, set, take, drop}
use lib.Seq.{drop-length, get_or-take, length-take-le}
use lib.Seq.{take-length}
use Rattle.std.proofs.lemmas.Slice.{put_mid-paste}
use Rattle.word.specs.Parts.{written}
use Rattle.word.specs.Table.{table}
use Rattle.word.proofs.Tables.{table_ext, table_of}
use Rattle.word.proofs.Writes.{written_list}
use Rattle.lines.specs.Output.{byte_at, Put, appended, grown}
use mathlib.Core.Bool.{Bool, true, false}
use borrow.Author.Tests.{ltb-true}
use lib.Dec.{ltb}

-- what fits, and what does not
pub grown_fits : (room at n : ℕ) → ltb (at + n) room ≡ true → grown room at n ≡ at + n
unfolding grown
grown_fits room at n h = simp h

pub grown_full : (room at n : ℕ) → ltb (at + n) room ≡ false → grown room at n ≡ room
unfolding grown
grown_full room at n h = simp h

pub appended_fits : (f : ℕ → ℕ) (n : ℕ) (out : List ℕ) (at : ℕ) → ltb (at + n) (length out) ≡ true → appended f n out at ≡ written f out at 1 n
unfolding appended
appended_fits f n out at h = simp h

pub appended_full : (f : ℕ → ℕ) (n : ℕ) (out : List ℕ) (at : ℕ) → ltb (at + n) (length out) ≡ false → appended f n out at ≡ out
unfolding appended
appended_full f n out at h = simp h

-- the answer of an append, from its test
module _ (f : ℕ → ℕ) (n : ℕ) (out : List ℕ) (at : ℕ) {fit : Bool} (e : fit ≡ ltb (at + n) (length out)) where
  pub put_fits : {out' : List ℕ} → fit ≡ true → out' ≡ written f out at 1 n → Put f n at out out' (at + n)
  put_fits t w =
      let yes : ltb (at + n) (length out) ≡ true = sym e ∙ t in
      record { filled = sym (grown_fits (length out) at n yes); output = w ∙ sym (appended_fits f n out at yes); within = omega (arith, ltb-true (at + n) (length out) yes) }

  pub put_full : fit ≡ false → Put f n at out out (length out)
  put_full t =
      let no : ltb (at + n) (length out) ≡ false = sym e ∙ t in
      record { filled = sym (grown_full (length out) at n no); output = sym (appended_full f n out at no); within = omega arith }

-- what fits ends within the room
pub put_room : (at n room : ℕ) {fit : Bool} → fit ≡ ltb (at + n) room → fit ≡ true → at + n < room
put_room at n room e t = ltb-true (at + n) room (sym e ∙ t)

-- a text that is copied over a part of a list is stored in a row
pub copied : (text out : List ℕ) (at k : ℕ) → k ≡ length text → at + length text ≤ length out → put_mid at k out text ≡ written (byte_at text) out at 1 (length text)
copied text out at k e room =
    put_mid-paste at k out text text (length text) refl (sym e) refl
    ∙ append_assoc (take at out) (take (length text) text) (drop (at + length text) out)
    ∙ ap (λ (l : List ℕ). take at out ++ (l ++ drop (at + length text) out)) (take-length text ∙ sym (table_of (length text) text 0 refl))
    ∙ sym (written_list (byte_at text) out at (length text) room)

-- bytes that fill a list are stored in a row
pub filled : (bytes out : List ℕ) → length out ≤ length bytes → take (length out) bytes ≡ written (byte_at bytes) out 0 1 (length out)
filled bytes out room =
    let n = length out in
    let front : take n bytes ≡ table n (byte_at bytes) =
    sym (table_of n (take n bytes) 0 (length-take-le n bytes room))
    ∙ table_ext n (byte_at (take n bytes)) (byte_at bytes) (λ i h. get_or-take n bytes i 0 h) in
    let after : drop n out ≡ [] = drop-length out in
    front ∙ sym (written_list (byte_at bytes) out 0 n (omega arith) ∙ simp (zero-add, after, append-nil))

-- one store more, and two
pub one_more : {A : Type 0} (f : ℕ → A) (out : List A) (at n : ℕ) → set (written f out at 1 n) (at + n) (f n) ≡ written f out at 1 (n + 1)
unfolding written
one_more f out at n = rw (add-one, mul-one)

pub two_more : {A : Type 0} (f : ℕ → A) (out : List A) (at n : ℕ) → set (set (written f out at 1 n) (at + n) (f n)) (at + n + 1) (f (n + 1)) ≡ written f out at 1 (n + 2)
two_more f out at n =
    let place : at + n + 1 ≡ at + (n + 1) = omega arith in
    let count : n + 1 + 1 ≡ n + 2 = omega arith in
    rw (one_more f out at n, place, one_more f out at (n + 1), count)
