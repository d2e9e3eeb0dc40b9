-- What is known of bytes that pass: how many, never which. Assumes nothing.
use Rattle.std.specs.Prelude.{ℕ, ◌≤◌, ◌<◌, ◌≡◌, Result, Ok, List, length, MatchResult}
use Rattle.stdio.specs.declared.ReadFailed.{ReadFailed}
use Rattle.stdio.specs.declared.WriteFailed.{WriteFailed}

-- one read into room for so many: no more than that, and nothing where it failed
abbrev pub ReadOnce : ℕ → Result ℕ ReadFailed → Type 0
ReadOnce room r = MatchResult r (λ n. n ≤ room) (λ e. e.count ≡ 0)

-- reads into room for so many, until it is full: no more than that, and not all of them where one failed
abbrev pub Filled : ℕ → Result ℕ ReadFailed → Type 0
Filled room r = MatchResult r (λ n. n ≤ room) (λ e. e.count < room)

-- no bytes at all are always taken
abbrev pub Taken : List ℕ → Result Unit WriteFailed → Type 0
Taken bytes r = length bytes ≡ 0 → r ≡ Ok tt
