-- `into::copy_out` meets its contract. Assumes nothing.
use mathlib.Core.Path.{◌≡◌, ap, sym, ◌∙◌}
use mathlib.Core.List.{List, ◌++◌}
use Prim.Native.Nat.{ℕ, ◌+◌, ◌-◌, ◌≤◌}
use native.Mathlib.Omega.{arith}
use lib.IntN.{ℤ, pos}
use lib.ListN.{get_or, length, take}
use lib.Seq.{drop-drop}
use borrow.Rule.Slice.PartMut.{put_mid}
use Rattle.std.proofs.lemmas.List.Edits.{get_or-between, length-between}
use Rattle.std.specs.List.{between}
use Rattle.word.specs.Parts.{written}
use Rattle.word.specs.Table.{table}
use Rattle.word.proofs.Tables.{table_ext, table_of}
use Rattle.word.proofs.Writes.{written_list}
use Rattle.into.proofs.copy_out.Goals as goal

-- a part of a list, copied into a part of another that is as long
copied : (from out : List ℤ) (next start n k m : ℕ) → next + n ≤ length from → start + n ≤ length out → k ≡ next + n → m ≡ n
    → put_mid start m out (between next k from) ≡ written (λ i. get_or from (next + i) (pos 0)) out start 1 n
copied from out next start n k m there room k-is m-is =
    let part : List ℤ = between next k from in
    let long : length part ≡ n = length-between from next k (omega arith) ∙ omega arith in
    let same : table n (λ i. get_or from (next + i) (pos 0)) ≡ part =
    table_ext n (λ i. get_or from (next + i) (pos 0)) (λ i. get_or part i (pos 0)) (λ i h. sym (get_or-between from next k i (pos 0) (omega arith)))
    ∙ table_of n part (pos 0) long in
    rw (m-is, written_list (λ i. get_or from (next + i) (pos 0)) out start n room, same) (ap (λ (l : List ℤ). take start out ++ (part ++ l)) (drop-drop n start out))

pub returns : goal.returns
returns c =
    let args = c.args in
    rw c.copy_from_slice.ensures.after
    (copied args.from.now args.out.now args.next args.start args.n (args.next + args.n) (args.start + args.n - args.start) (omega arith) (omega arith) (omega arith) (omega arith))
