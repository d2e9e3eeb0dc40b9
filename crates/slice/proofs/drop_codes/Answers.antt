-- `slice::drop_codes` meets its contract: what is shifted out lies above the codes that are left. Assumes nothing.
use mathlib.Core.Path.{◌≡◌, ap, ◌∙◌}
use Prim.Native.Nat.{ℕ, ◌+◌, ◌-◌, ◌*◌, ◌/◌, ◌%◌, ◌^◌, ◌<◌}
use native.Mathlib.Omega.{arith}
use lib.Pow.{field, mod-mod-pow, shl-shr, shr-shr}
use Rattle.word.specs.Word.{code_of}
use Rattle.slice.proofs.drop_codes.Goals as goal

-- what is shifted out is above the code, and the shift up is undone by a part of the shift down
shifted : (w n j : ℕ) → n + j < 20 → code_of (w * 2 ^ (3 * n) % 2 ^ 64) j ≡ code_of w (n + j)
shifted w n j h =
    let all : 64 ≡ 4 + 3 * j + 3 + (57 - 3 * j) = omega arith in
    let down : 57 - 3 * j ≡ 3 * n + (57 - 3 * (n + j)) = omega arith in
    let x : ℕ = w * 2 ^ (3 * n) in
    ap (λ (m : ℕ). x % 2 ^ m / 2 ^ (57 - 3 * j) % 8) all
    ∙ ap (λ (m : ℕ). m % 8) (field x (4 + 3 * j + 3) (57 - 3 * j))
    ∙ mod-mod-pow (x / 2 ^ (57 - 3 * j)) (4 + 3 * j) 3
    ∙ ap (λ (m : ℕ). x / 2 ^ m % 8) down
    ∙ ap (λ (m : ℕ). m % 8) (rw (← shr-shr, shl-shr))

pub returns : goal.returns
returns c j h = shifted c.args.word c.args.n j h
