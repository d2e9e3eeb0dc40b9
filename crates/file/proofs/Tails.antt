-- A tail changes nothing but the bytes: without it the file is accepted with the same audio, and any tail that is allowed may be added.
-- Where no tail but the empty one is allowed, both say nothing. Assumes nothing.
use Prim.Native.Nat.{ℕ}
use mathlib.Core.Path.{◌≡◌, refl, sym, ap, ◌∙◌}
use mathlib.Core.Bool.{true}
use mathlib.Core.List.{List, [], ◌∷◌, ◌++◌, append_assoc}
use lib.Dec.{T}
use lib.ListN.{length}
use Rattle.format.specs.Grammar.{Cut, IsCut, cut_bytes, joined, tail_ok}
use Rattle.format.proofs.Tails.{tail_none}
use Rattle.file.specs.Whole.{audio_of}

joined_tail : (fs : List (List ℕ)) (t : List ℕ) → joined fs t ≡ joined fs [] ++ t
joined_tail [] t = refl
joined_tail (f ∷ fs) t = ap (λ (l : List ℕ). f ++ l) (joined_tail fs t) ∙ sym (append_assoc f (joined fs []) t)

abbrev pub with_tail : Cut → List ℕ → Cut
with_tail k t = record { head = k.head; first = k.first; others = k.others; tail = t }

bytes_tail : (k : Cut) (t : List ℕ) → cut_bytes (with_tail k t) ≡ cut_bytes (with_tail k []) ++ t
bytes_tail k t =
    ap (λ (l : List ℕ). k.head ++ l) (joined_tail (k.first ∷ k.others) t) ∙ sym (append_assoc k.head (joined (k.first ∷ k.others) []) t)

pub cut_off : (k : Cut) (b : List ℕ) → IsCut k b → IsCut (with_tail k []) (cut_bytes (with_tail k [])) × (cut_bytes (with_tail k []) ++ k.tail ≡ b)
cut_off k b i = (
  record { head_whole = i.head_whole; head_magic = i.head_magic; frames = i.frames; tail_ok = tail_none; bytes = refl },
  sym (bytes_tail k k.tail) ∙ i.bytes,
)

pub put_on : (k : Cut) (b t : List ℕ) → IsCut (with_tail k []) b → T (tail_ok (length t) true) → IsCut (with_tail k t) (b ++ t)
put_on k b t i ok =
    record {
      head_whole = i.head_whole;
      head_magic = i.head_magic;
      frames = i.frames;
      tail_ok = ok;
      bytes = bytes_tail k t ∙ ap (λ (l : List ℕ). l ++ t) i.bytes;
    }

pub same_audio : (k : Cut) (t : List ℕ) → audio_of (with_tail k t) ≡ audio_of k
unfolding audio_of
same_audio k t = refl
