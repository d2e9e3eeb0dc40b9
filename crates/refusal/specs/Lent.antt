-- What a call leaves in lent memory. Assumes nothing.
use Rattle.std.specs.Prelude.{ℕ, List, ◌++◌, length, take, drop}
use Rattle.refusal.specs.Rules.{Answer, good, refused}

-- lent memory after a call: on a refusal as it was; else the values laid over it from a place on, and all else as it was
unfoldable pub laid_over : {A : Type 0} → List A → ℕ → Answer (List A) → List A
laid_over out p (refused n) = out
laid_over out p (good xs) = take p out ++ (xs ++ drop (length xs) (drop p out))
