-- What the parts of the code ask and answer. Assumes nothing.
use Rattle.std.specs.Prelude.{ℕ, zero, suc, ◌+◌, ◌*◌, List, set}
use Rattle.word.specs.Bytes.{byte_of}

-- `out` with f 0, f 1, .., f (n - 1) stored at start, start + stride, ..; all else is as it was
unfoldable pub written : {A : Type 0} → (ℕ → A) → List A → ℕ → ℕ → ℕ → List A
written f out start stride zero = out
written f out start stride (suc n) = set (written f out start stride n) (start + n * stride) (f n)

-- the same for several channels, interleaved: n values of each of the first c channels, each of its own function
unfoldable pub interleaved : {A : Type 0} → (ℕ → ℕ → A) → List A → ℕ → ℕ → ℕ → ℕ → List A
interleaved f out start channels n zero = out
interleaved f out start channels n (suc c) = written (f c) (interleaved f out start channels n c) (start + c) channels n

-- `out` with the n bytes of w stored from the place p on
abbrev pub put : ℕ → List ℕ → ℕ → ℕ → List ℕ
put n out p w = written (byte_of n w) out p 1 n

-- a word built from the top: the scale factor, then n codes, each pushed in from below
unfoldable pub packed : ℕ → (ℕ → ℕ) → ℕ → ℕ
packed s f zero = s
packed s f (suc n) = packed s f n * 8 + f n
