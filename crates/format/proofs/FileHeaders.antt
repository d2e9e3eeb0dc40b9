-- Laws of the file header: its word, and what a good one says. Assumes nothing.
use Prim.Native.Nat.{ℕ, ◌/◌, ◌%◌, ◌^◌, ◌≤◌, ◌<◌}
use mathlib.Core.Path.{◌≡◌, ap, ◌∙◌}
use mathlib.Core.List.{List}
use native.Mathlib.Omega.{arith}
use lib.ListN.{length}
use Rattle.refusal.specs.Rules.{Answer, good, refused}
use Rattle.word.specs.Bytes.{be32, be64}
use Rattle.word.proofs.BytesLaws.{be_lt_bits, be_join}
use Rattle.refusal.proofs.Rules.{FiresAt, Quiet, after_good, good_after, good_same, refused_at}
use Rattle.word.proofs.Tests.{tests}
use Rattle.format.specs.FileHeader.{magic, total_of, file_rules}
use Rattle.word.proofs.Fields.{AreBytes, Stored, stored_field}
use Rattle.format.specs.Parts.{file_word, file_header}

-- the upper and the lower half of the word of 8 bytes
pub magic_of : (bs : List ℕ) → AreBytes bs → be64 bs 0 / 2 ^ 32 ≡ be32 bs 0
magic_of bs bytes =
    let halves = be_join 4 4 bs 0 in
    let low = be_lt_bits 4 bs 4 bytes in
    omega arith

pub total_of_lem : (bs : List ℕ) → AreBytes bs → be64 bs 0 % 2 ^ 32 ≡ total_of bs
total_of_lem bs bytes =
    let halves = be_join 4 4 bs 0 in
    let low = be_lt_bits 4 bs 4 bytes in
    omega arith

-- the first rule that fires decides
pub file_refused : (i : ℕ) (bs : List ℕ) (n : ℕ) → FiresAt i (file_rules bs) n → file_header bs ≡ refused n
unfolding file_header
file_refused i bs n f = refused_at i (file_rules bs) n (good (total_of bs)) f

-- what a good file header says, and the other way round
pub record GoodFile (bs : List ℕ) (total : ℕ) : Type 0 where
  pub there : 8 ≤ length bs
  pub is_qoa : be32 bs 0 ≡ magic
  pub same : total_of bs ≡ total

pub file_good : (bs : List ℕ) (total : ℕ) → file_header bs ≡ good total → GoodFile bs total
unfolding file_header file_rules
file_good bs total e =
    let quiet = after_good (file_rules bs) (good (total_of bs)) total e in
    record { there = omega (arith, tests); is_qoa = omega (arith, tests); same = good_same (total_of bs) total quiet.1 }

pub good_file : (bs : List ℕ) (total : ℕ) → GoodFile bs total → file_header bs ≡ good total
unfolding file_header file_rules
good_file bs total g =
    let quiet : Quiet (file_rules bs) = omega (arith, tests) in
    good_after (file_rules bs) (good (total_of bs)) quiet ∙ ap {B = Answer ℕ} good g.same

-- a stored file header is read back
pub file_stored : (bs : List ℕ) (total : ℕ) → total < 2 ^ 32 → 8 ≤ length bs → Stored 8 (file_word total) bs 0 → file_header bs ≡ good total
unfolding file_word
file_stored bs total small room stored =
    let w = file_word total in
    let fits : w < 256 ^ 8 = omega arith in
    let top = stored_field 0 4 4 w bs 0 stored fits in
    let low = stored_field 4 4 0 w bs 0 stored fits in
    good_file bs total (record { there = room; is_qoa = omega arith; same = omega arith })
