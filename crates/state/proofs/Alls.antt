-- What `all` answers over a list: a test of each of its indices; and of a list's start, the test of the first indices. Assumes nothing.
use mathlib.Core.Path.{◌≡◌, sym, ap, ◌∙◌}
use mathlib.Core.Bool.{Bool, true, false, ◌&&◌}
use mathlib.Core.List.{List}
use Prim.Native.Nat.{ℕ, ◌<◌, ◌≤◌}
use native.Mathlib.Omega.{arith}
use lib.ListN.{get_or, length, take}
use lib.Seq.{length-take-le}
use Rattle.std.specs.Bool.{MatchBool}
use Rattle.std.specs.List.{AllWithin, HoldsAt}
use Rattle.std.proofs.lemmas.List.{get_or-take}
use Rattle.lms.specs.declared.QoaLms.{QoaLms}
use Rattle.lms.specs.Predictor.{history_rule}
use Rattle.state.specs.States.{lms_rule, weight_rule}
use Rattle.state.proofs.GoodStates.{channel_rule}
use Rattle.word.specs.Below.{below}
use Rattle.word.proofs.Belows.{below_all, below_ext, below_false}

pub all_below : {A : Type 0} (p : A → Bool) (xs : List A) (d : A) (r : Bool)
    → MatchBool r (AllWithin (λ x. p x ≡ true) xs 0 (length xs)) ((k : ℕ) × (k < length xs) × HoldsAt (λ x. p x ≡ false) xs k)
    → r ≡ below (length xs) (λ i. p (get_or xs i d))
all_below p xs d true h = sym (below_all (λ i. p (get_or xs i d)) (length xs) (λ k l. h k d (omega arith) l))
all_below p xs d false h = sym (below_false (λ i. p (get_or xs i d)) (length xs) h.0 h.1 (h.2 d))

-- only the used channels count
pub used_rule : (c b : ℕ) (states : List QoaLms) → c ≤ length states → lms_rule (length (take c states)) b (take c states) ≡ lms_rule c b states
unfolding lms_rule
used_rule c b states room =
    ap (λ (n : ℕ). below n (channel_rule b (take c states))) (length-take-le c states room)
    ∙ below_ext (channel_rule b (take c states)) (channel_rule b states) c (λ j l. ap (λ (s : QoaLms). history_rule s && weight_rule b s) (get_or-take c states j _ l))
