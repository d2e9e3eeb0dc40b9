-- Laws of the file header's bytes. Assumes nothing.
use Prim.Native.Nat.{ℕ, ◌+◌, ◌*◌, ◌/◌, ◌%◌, ◌^◌, ◌≤◌, ◌<◌}
use mathlib.Core.Path.{◌≡◌, ap, ◌∙◌}
use mathlib.Core.List.{List, [], ◌∷◌, ◌++◌}
use native.Mathlib.Omega.{arith}
use lib.ListN.{length, length-append}
use Rattle.word.specs.Bytes.{byte_of, bytes_of}
use Rattle.word.specs.Parts.{put}
use Rattle.word.proofs.BytesLaws.{length_bytes}
use Rattle.format.specs.FileHeader.{magic}
use Rattle.refusal.specs.Rules.{good}
use Rattle.refusal.specs.Lent.{laid_over}
use Rattle.refusal.proofs.Lents.{over_put}
use Rattle.encoder.specs.Head.{head_bytes}
use Rattle.format.specs.Parts.{file_word}
use Rattle.word.specs.Table.{table}

-- the word's upper half is `qoaf`, and its lower half has the total's bytes
module _ (total : ℕ) (h : total < 2 ^ 32) where
  abbrev whole : ℕ
  whole = magic * 2 ^ 32 + total

  byte_0 : whole / 2 ^ 56 % 256 ≡ magic / 2 ^ 24 % 256
  byte_0 = omega arith

  byte_1 : whole / 2 ^ 48 % 256 ≡ magic / 2 ^ 16 % 256
  byte_1 = omega arith

  byte_2 : whole / 2 ^ 40 % 256 ≡ magic / 2 ^ 8 % 256
  byte_2 = omega arith

  byte_3 : whole / 2 ^ 32 % 256 ≡ magic / 2 ^ 0 % 256
  byte_3 = omega arith

  byte_4 : whole / 2 ^ 24 % 256 ≡ total / 2 ^ 24 % 256
  byte_4 = omega arith

  byte_5 : whole / 2 ^ 16 % 256 ≡ total / 2 ^ 16 % 256
  byte_5 = omega arith

  byte_6 : whole / 2 ^ 8 % 256 ≡ total / 2 ^ 8 % 256
  byte_6 = omega arith

  byte_7 : whole / 2 ^ 0 % 256 ≡ total / 2 ^ 0 % 256
  byte_7 = omega arith

  pub word_bytes : bytes_of 8 (file_word total) ≡ bytes_of 4 magic ++ bytes_of 4 total
  unfolding bytes_of byte_of table file_word
  word_bytes = λ i. byte_0 i ∷ byte_1 i ∷ byte_2 i ∷ byte_3 i ∷ byte_4 i ∷ byte_5 i ∷ byte_6 i ∷ byte_7 i ∷ []

pub length_head : (total : ℕ) → length (head_bytes total) ≡ 8
unfolding head_bytes
length_head total = omega (arith, length-append (bytes_of 4 magic) (bytes_of 4 total), length_bytes 4 magic, length_bytes 4 total)

-- the word, stored at the start of the output
pub head_put : (total : ℕ) (out : List ℕ) → total < 2 ^ 32 → 8 ≤ length out → put 8 out 0 (file_word total) ≡ laid_over out 0 (good (head_bytes total))
unfolding head_bytes
head_put total out small room = over_put out 0 8 (file_word total) (omega arith) ∙ ap (λ (l : List ℕ). laid_over out 0 (good l)) (word_bytes total small)
