-- What an answer tells settles the answer: `told` is one-to-one, and no refusal has the number 0. Assumes nothing.
use Prim.Native.Nat.{ℕ, ◌<◌}
use mathlib.Core.Path.{◌≡◌, refl, sym, ap, ◌∙◌}
use mathlib.Core.List.{List, [], ◌∷◌}
use mathlib.Core.Option.{none, some}
use lib.Dec.{lit<}
use lib.ListN.{get_or}
use Rattle.std.specs.Prelude.{Result, Ok, Err}
use Rattle.std.specs.Result.{IsErrAnd}
use Rattle.refusal.specs.Rules.{good, refused, Answer}
use Rattle.refusal.specs.Refusals.{number_of, told, told_refusal}
use Rattle.refusal.specs.declared.Refusal.{Refusal}
use Rattle.refusal.specs.declared.Refusal.TheVariants.{NotQoaFile, NoSamples, InvalidFrameHeader, IncompatibleFrame, Truncated, TooManyChannels, OutputTooSmall, BadState, InputTooLong, InvalidChannels, InvalidSampleRate, InvalidSamples, WeightRange}

-- the refusals by number; there is no 0 and no 10
refusals : List Refusal
refusals =
    NotQoaFile ∷ NotQoaFile ∷ NoSamples ∷ InvalidFrameHeader ∷ IncompatibleFrame ∷ Truncated ∷ TooManyChannels ∷ OutputTooSmall
    ∷ BadState ∷ InputTooLong ∷ NotQoaFile ∷ InvalidChannels ∷ InvalidSampleRate ∷ InvalidSamples ∷ WeightRange ∷ []

pub by_number : ℕ → Refusal
by_number n = get_or refusals n NotQoaFile

pub number_back : (r : Refusal) → by_number (number_of r) ≡ r
unfolding by_number refusals
number_back NotQoaFile = refl
number_back NoSamples = refl
number_back InvalidFrameHeader = refl
number_back IncompatibleFrame = refl
number_back Truncated = refl
number_back TooManyChannels = refl
number_back OutputTooSmall = refl
number_back BadState = refl
number_back InputTooLong = refl
number_back InvalidChannels = refl
number_back InvalidSampleRate = refl
number_back InvalidSamples = refl
number_back WeightRange = refl

pub number_some : (r : Refusal) → 0 < number_of r
number_some NotQoaFile = lit< tt
number_some NoSamples = lit< tt
number_some InvalidFrameHeader = lit< tt
number_some IncompatibleFrame = lit< tt
number_some Truncated = lit< tt
number_some TooManyChannels = lit< tt
number_some OutputTooSmall = lit< tt
number_some BadState = lit< tt
number_some InputTooLong = lit< tt
number_some InvalidChannels = lit< tt
number_some InvalidSampleRate = lit< tt
number_some InvalidSamples = lit< tt
number_some WeightRange = lit< tt

-- where what is told makes the answer again, it is told one-to-one
pub told_one : {A B : Type 0} (told : B → A) (back : A → B) → ((b : B) → back (told b) ≡ b) → (a b : B) → told a ≡ told b → a ≡ b
told_one told back undone a b e = sym (undone a) ∙ ap back e ∙ undone b

-- the answer that tells a value, or a refusal's number
abbrev pub answered : {A B : Type 0} → (A → B) → (Refusal → B) → Answer A → B
answered value refusal (good x) = value x
answered value refusal (refused n) = refusal (by_number n)

-- what is told of an answer settles it
pub told_lem : {A : Type 0} (a b : Result A Refusal) → told a ≡ told b → a ≡ b
told_lem = told_one told (answered (λ x. Ok x) (λ r. Err r)) (elim [ Ok x ↦ refl | Err r ↦ ap (λ n. Err n) (number_back r) ])

pub told_refusal_lem : (a b : Result Unit Refusal) → told_refusal a ≡ told_refusal b → a ≡ b
told_refusal_lem = told_one told_refusal (elim [ none ↦ Ok tt | some n ↦ Err (by_number n) ]) (elim [ Ok u ↦ refl | Err r ↦ ap (λ n. Err n) (number_back r) ])

-- ---- what the exit of a `?` hands on: the refusal that it met

pub exit_told : {A : Type 0} (a : Result A Refusal) (r : Refusal) → IsErrAnd a (λ q. q ≡ r) → told a ≡ refused (number_of r)
exit_told (Ok x) r e = absurd e
exit_told (Err q) r e = ap (λ (s : Refusal). refused (number_of s)) e

pub exit_refusal : {A : Type 0} (a : Result A Refusal) (r : Refusal) → IsErrAnd a (λ q. q ≡ r) → told_refusal a ≡ some (number_of r)
exit_refusal (Ok x) r e = absurd e
exit_refusal (Err q) r e = ap (λ (s : Refusal). some (number_of s)) e
