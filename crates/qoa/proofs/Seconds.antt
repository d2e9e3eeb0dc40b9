-- The double of `qoa_facts_seconds` tells what the call told: a refusal is below 0 and a length is not. Assumes nothing.
use Prim.Native.Nat.{ℕ, zero, suc, ◌+◌, ◌-◌, ◌*◌, ◌/◌, ◌^◌, min}
use mathlib.Core.Path.{◌≡◌, refl, sym, ap, ◌∙◌}
use mathlib.Core.Bool.{Bool, true, false, cond}
use mathlib.Core.List.{List, [], ◌∷◌}
use native.Mathlib.Omega.{arith}
use lib.Dec.{eqb, ltb}
use lib.Ieee.{Float, nan, inf, fin, Format, binary64, div, down, emax, low, odd, of_int, prec, round, to_signed, units, up}
use lib.Ieee.Back.{negative_back}
use lib.Ieee.Fits.{round_is}
use lib.IntN.{pos, neg_ℤ}
use Rattle.refusal.specs.Rules.{Answer, Rule, ◌gives◌, after, first_of, good, refused, ◌then◌}
use Rattle.format.specs.Facts.{facts_of, no_length, seconds}
use Rattle.format.specs.FileHeader.{is_fixed}
use Rattle.format.specs.declared.facts.Facts.{Facts}
use Rattle.state.specs.Facts.{facts_for}
use Rattle.state.specs.Opening.{open_rules, opened_at}
use Rattle.state.specs.declared.FrameFacts.{FrameFacts}
use Rattle.state.specs.declared.ProcessingMode.{ProcessingMode}
use Rattle.state.specs.declared.ProcessingMode.TheVariants.{FixedSamples, Streaming}
use Rattle.codes.specs.Codes.{coded_seconds}
use Rattle.qoa.specs.Coded.{opened_facts}
use Rattle.codes.proofs.Apart.{Low, neg_one, pos_neg}
use Rattle.codes.proofs.Numbers.{minus_double}
use Rattle.qoa.proofs.Refusing.{Numbers, open_numbers}

-- ---- a double that has no minus sign

abbrev Unsigned : Float → Type 0
Unsigned nan = Unit {0}
Unsigned (inf s) = s ≡ false
Unsigned (fin s m e) = s ≡ false

one_of : (b : Bool) (x y : Float) → Unsigned x → Unsigned y → Unsigned (cond b x y)
one_of true x y p q = p
one_of false x y p q = q

odd_unsigned : (d q k l : ℕ) → Unsigned (odd d false q k l)
unfolding odd
odd_unsigned d zero k l = refl
odd_unsigned d (suc q) k l = refl

units_unsigned : (f : Format) (q k : ℕ) → Unsigned (units f false q k)
unfolding units
units_unsigned f q k = one_of (ltb (q * 2 ^ k) (2 ^ (low f + suc (emax f)))) (odd (suc (prec f)) false q k (low f)) (inf false) (odd_unsigned (suc (prec f)) q k (low f)) refl

round_unsigned : (f : Format) (n d : ℕ) → Unsigned (round f false n d)
round_unsigned f n d = rw (round_is f false n d) (units_unsigned f _ _)

div_unsigned : (f : Format) (x y : Float) → Unsigned x → Unsigned y → Unsigned (div f x y)
unfolding div
div_unsigned f nan y p q = tt
div_unsigned f (inf s) nan p q = tt
div_unsigned f (inf s) (inf t) p q = tt
div_unsigned f (inf s) (fin t n d) p q = rw (p, q) refl
div_unsigned f (fin s m e) nan p q = tt
div_unsigned f (fin s m e) (inf t) p q = rw (p, q) refl
div_unsigned f (fin s m e) (fin t n d) p q = rw (p, q) (one_of (eqb n 0) _ _ (one_of (eqb m 0) nan (inf false) tt refl) (round_unsigned f _ _))

-- ---- a length has none

whole_unsigned : (n : ℕ) → Unsigned (of_int binary64 (pos n))
unfolding of_int
whole_unsigned n = round_unsigned binary64 n 1

length_unsigned : (total c rate : ℕ) → Unsigned (facts_of total c rate).length
unfolding facts_of
length_unsigned total c rate = one_of (is_fixed total) (seconds total rate) no_length (div_unsigned binary64 _ _ (whole_unsigned total) (whole_unsigned rate)) refl

for_unsigned : (mode : ProcessingMode) (frame : FrameFacts) → Unsigned (facts_for mode frame).length
unfolding facts_for
for_unsigned (FixedSamples total c rate) frame = length_unsigned total c rate
for_unsigned Streaming frame = length_unsigned 0 frame.channels frame.rate

-- ---- read as whole numbers, the two are apart

unsigned_read : (x : Float) → Unsigned x → (k : ℕ) × (to_signed 63 x ≡ pos k)
unfolding to_signed
unsigned_read nan p = (0, refl)
unsigned_read (inf s) p = (2 ^ 63 - 1, rw p refl)
unsigned_read (fin s m e) p = (min (m * up e / down e) (2 ^ 63 - 1), rw p refl)

minus_read : (n : ℕ) → Low n → to_signed 63 (of_int binary64 (neg_ℤ (pos n))) ≡ neg_ℤ (pos n)
minus_read zero p = absurd (omega arith)
minus_read (suc k) p = (negative_back binary64 63 k (minus_double (suc k) (omega arith)) (omega arith)).1

-- a refusal or a length, as the call tells it
abbrev Told : Answer Float → Type 0
Told (refused n) = Low n
Told (good x) = Unsigned x

apart : {X : Type 0} (n : ℕ) (x : Float) → Low n → Unsigned x → x ≡ of_int binary64 (neg_ℤ (pos n)) → X
apart n x p q e = let k = unsigned_read x q in pos_neg k.0 n p.0 (sym k.1 ∙ ap (to_signed 63) e ∙ minus_read n p)

one_seconds : (a b : Answer Float) → Told a → Told b → coded_seconds a ≡ coded_seconds b → a ≡ b
one_seconds (refused m) (refused n) p q e = ap {B = Answer Float} refused (neg_one m n (sym (minus_read m p) ∙ ap (to_signed 63) e ∙ minus_read n q))
one_seconds (refused m) (good x) p q e = apart m x p q (sym e)
one_seconds (good x) (refused n) p q e = apart n x q p e
one_seconds (good x) (good y) p q e = ap {B = Answer Float} good e

-- ---- the call

-- the length that facts tell
abbrev length_in : Answer Facts → Answer Float
length_in a = a then λ f. good f.length

told_after : (l : List Rule) (f : Facts) → Numbers l → Unsigned f.length → Told (length_in (after l (good f)))
unfolding first_of
told_after [] f p q = q
told_after ((true gives n) ∷ l) f p q = p.0
told_after ((false gives n) ∷ l) f p q = told_after l f p.1 q

told_length : (bs : List ℕ) → Told (length_in (opened_facts bs))
unfolding opened_facts
told_length bs = told_after (open_rules bs) _ (open_numbers bs) (for_unsigned (opened_at bs).mode (opened_at bs).frame)

-- two files with one double were told the same
pub seconds_apart : (bs cs : List ℕ) → coded_seconds (opened_facts bs then λ f. good f.length) ≡ coded_seconds (opened_facts cs then λ f. good f.length)
    → (opened_facts bs then λ f. good f.length) ≡ (opened_facts cs then λ f. good f.length)
seconds_apart bs cs = one_seconds (length_in (opened_facts bs)) (length_in (opened_facts cs)) (told_length bs) (told_length cs)
