-- Numbers of 16 bits, as tests and as facts. Assumes nothing.
use Rattle.std.proofs.Common.{◌≡◌, ℕ, Bool, true, ltb, List, length, ℤ, pos, refl, arith, w16, SFits, ltb-true, lt-ltb}
use mathlib.Core.Logic.{dite}
use native.Mathlib.Decide.{dec_lt}
use lib.ListN.{get_or-eq_default}
use lib.Signed.{mag}
use Rattle.word.specs.Below.{below}
use Rattle.word.proofs.Belows.{below_all, below_at}
use Rattle.lms.specs.Predictor.{all_short, at, history_rule}
use Rattle.lms.specs.Parts.{HistoryFits}
use Rattle.lms.specs.declared.QoaLms.{QoaLms}

-- a test of each number of a list, which 0 passes, is passed by what is read at any index
pub anywhere : (p : ℤ → Bool) (xs : List ℤ) → p (pos 0) ≡ true → below (length xs) (λ i. p (at xs i)) ≡ true → (i : ℕ) → p (at xs i) ≡ true
anywhere p xs z e i =
    dite (dec_lt i (length xs))
    (λ inside. below_at (λ i. p (at xs i)) (length xs) e i inside)
    (λ past. let end : at xs i ≡ pos 0 = get_or-eq_default xs (pos 0) (omega arith) in rw end z)

pub short_fits : (xs : List ℤ) → all_short xs ≡ true → (i : ℕ) → SFits w16 (at xs i)
unfolding all_short
short_fits xs e i = record { sfits = ltb-true _ _ (anywhere (λ z. ltb (mag z) 32768) xs refl e i) }

pub fits_short : (xs : List ℤ) → ((i : ℕ) → SFits w16 (at xs i)) → all_short xs ≡ true
unfolding all_short
fits_short xs f = below_all (λ i. ltb (mag (at xs i)) 32768) (length xs) (λ i l. lt-ltb (mag (at xs i)) 32768 (f i).sfits)

pub history_facts : (s : QoaLms) → history_rule s ≡ true → HistoryFits s
unfolding history_rule
history_facts s e = record { fit = λ i. short_fits s.history e i }

pub facts_history : (s : QoaLms) → HistoryFits s → history_rule s ≡ true
unfolding history_rule
facts_history s f = fits_short s.history (λ i. f.fit i)
