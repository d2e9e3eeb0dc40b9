-- The candidates by their keys: the least key from the last one on runs through the order of the definition.
-- Assumes nothing.
use Prim.Native.Nat.{ℕ, zero, suc, ◌+◌, ◌-◌, ◌/◌, ◌%◌, ◌^◌, ◌≤◌, ◌<◌}
use mathlib.Core.Path.{◌≡◌, refl, ap, sym, ◌∙◌}
use mathlib.Core.Bool.{Bool, true, false}
use mathlib.Core.Logic.{◌⊎◌, inl, inr, ⊎_elim}
use mathlib.Core.List.{List, [], ◌∷◌}
use native.Mathlib.Numerals.{add-one}
use native.Mathlib.Omega.{arith}
use borrow.Author.Count.{below_more}
use borrow.Author.Tests.{le-leb, lt-leb, lt-ltb, le-ltb, leb-true, leb-false, ltb-true, ltb-false}
use lib.Dec.{leb, ltb}
use lib.ListN.{length, get_or}
use Rattle.search.specs.Search.{ordered}
use Rattle.search.specs.Parts.{key_of, next_key}
use Rattle.search.proofs.Sorting.{All, all_map, all_has, Has, here, there, Earlier, Sorted, ordered_below, ordered_sorted, ordered_has}

-- ---- the next key, one key more

module _ (keys : List ℕ) (from n : ℕ) where
  pub next_lower : from ≤ get_or keys n 0 → get_or keys n 0 < next_key keys from n → next_key keys from (n + 1) ≡ get_or keys n 0
  unfolding next_key
  next_lower h l = rw (add-one, le-leb _ _ h, lt-ltb _ _ l)

  pub next_not_lower : from ≤ get_or keys n 0 → next_key keys from n ≤ get_or keys n 0 → next_key keys from (n + 1) ≡ next_key keys from n
  unfolding next_key
  next_not_lower h l = rw (add-one, le-leb _ _ h, le-ltb _ _ l)

  pub next_below : get_or keys n 0 < from → next_key keys from (n + 1) ≡ next_key keys from n
  unfolding next_key
  next_below h = rw (add-one, lt-leb _ _ h)

-- ---- it is the least, and one of them or the largest number

-- one of the first n keys that is from or more
pub record Keyed (keys : List ℕ) (from n key : ℕ) : Type 0 where
  pub number : ℕ
  pub among : number < n
  pub is : get_or keys number 0 ≡ key
  pub reached : from ≤ key

pub record Next (keys : List ℕ) (from n key : ℕ) : Type 0 where
  pub least : (k : ℕ) → k < n → from ≤ get_or keys k 0 → key ≤ get_or keys k 0
  pub one : (key ≡ 2 ^ 64 - 1) ⊎ Keyed keys from n key

keyed_more : (keys : List ℕ) (from n key : ℕ) → Keyed keys from n key → Keyed keys from (n + 1) key
keyed_more keys from n key k = record { number = k.number; among = omega (arith, k.among); is = k.is; reached = k.reached }

module _ (keys : List ℕ) (from n : ℕ) (p : Next keys from n (next_key keys from n)) where
  abbrev here_key : ℕ
  here_key = get_or keys n 0

  lower : from ≤ here_key → here_key < next_key keys from n → Next keys from (n + 1) (next_key keys from (n + 1))
  lower h l =
      rw (next_lower keys from n h l)
      (record {
        least = below_more (λ k. from ≤ get_or keys k 0 → here_key ≤ get_or keys k 0) n (λ k b f. omega (arith, p.least k b f)) (λ f. omega arith);
        one = inr (record { number = n; among = omega arith; is = refl; reached = h });
      })

  kept : next_key keys from (n + 1) ≡ next_key keys from n → (from ≤ here_key → next_key keys from n ≤ here_key) → Next keys from (n + 1) (next_key keys from (n + 1))
  kept e h =
      rw e
      (record {
        least = below_more (λ k. from ≤ get_or keys k 0 → next_key keys from n ≤ get_or keys k 0) n p.least h;
        one = ⊎_elim (λ q. inl q) (λ q. inr (keyed_more keys from n _ q)) p.one;
      })

  next_more : Next keys from (n + 1) (next_key keys from (n + 1))
  next_more = by (leb from here_key) refl (ltb here_key (next_key keys from n)) refl
    where
      by : (s : Bool) → leb from here_key ≡ s → (t : Bool) → ltb here_key (next_key keys from n) ≡ t → Next keys from (n + 1) (next_key keys from (n + 1))
      by true e true d = lower (leb-true _ _ e) (ltb-true _ _ d)
      by true e false d = kept (next_not_lower keys from n (leb-true _ _ e) (ltb-false _ _ d)) (λ h. ltb-false _ _ d)
      by false e t d = kept (next_below keys from n (leb-false _ _ e)) (λ h. absurd (omega (arith, leb-false from here_key e)))

pub next_key_is : (keys : List ℕ) (from n : ℕ) → Next keys from n (next_key keys from n)
unfolding next_key
next_key_is keys from zero = record { least = λ k h. absurd (omega arith); one = inl refl }
next_key_is keys from (suc n) = rw add-one at (next_more keys from n (next_key_is keys from n))

-- ---- the candidates still to come: all whose key is from or more, in order

pub record Coming (cost : ℕ → ℕ) (from : ℕ) (rest : List ℕ) : Type 0 where
  pub below : All (λ g. g < 16) rest
  pub sorted : Sorted cost rest
  pub has : (g : ℕ) → g < 16 → from ≤ key_of cost g → Has g rest
  pub reached : All (λ g. from ≤ key_of cost g) rest

pub coming_all : (cost : ℕ → ℕ) → Coming cost 0 (ordered cost 16)
coming_all cost =
    record {
      below = ordered_below cost 16;
      sorted = ordered_sorted cost 16;
      has = λ g h l. ordered_has cost 16 g h;
      reached = all_map (λ g. g < 16) (λ g. 0 ≤ key_of cost g) (λ g h. omega arith) (ordered cost 16) (ordered_below cost 16);
    }

-- What is left when the next key is known: none, or the candidate of that key first.
pub data Due (cost : ℕ → ℕ) (key : ℕ) : List ℕ → Type 0 where
  over : key ≡ 2 ^ 64 - 1 → Due cost key []
  due : {f : ℕ} {rest : List ℕ} → f < 16 → key ≡ key_of cost f → Coming cost (key + 1) rest → Due cost key (f ∷ rest)

module _ (cost : ℕ → ℕ) where
  earlier_key : (f g : ℕ) → f < 16 → Earlier cost f g → key_of cost f + 1 ≤ key_of cost g
  unfolding Earlier
  earlier_key f g h e = ⊎_elim (λ l. omega arith) (λ l. omega arith) e

  -- The first of an ordered list has the least key.
  first_least : (f g : ℕ) (rest : List ℕ) → f < 16 → All (Earlier cost f) rest → Has g (f ∷ rest) → key_of cost f ≤ key_of cost g
  first_least f g rest h s here = omega arith
  first_least f g rest h s (there m) = omega (arith, earlier_key f g h (all_has (Earlier cost f) g rest m s))

  behind : (f g : ℕ) (rest : List ℕ) → key_of cost f < key_of cost g → Has g (f ∷ rest) → Has g rest
  behind f g rest h here = absurd (omega arith)
  behind f g rest h (there m) = m

  coming_rest : (from f : ℕ) (rest : List ℕ) → Coming cost from (f ∷ rest) → Coming cost (key_of cost f + 1) rest
  coming_rest from f rest c =
      record {
        below = c.below.1;
        sorted = c.sorted.1;
        has = λ g h l. behind f g rest (omega arith) (c.has g h (omega (arith, c.reached.0)));
        reached = all_map (Earlier cost f) (λ g. key_of cost f + 1 ≤ key_of cost g) (λ g e. earlier_key f g c.below.0 e) rest c.sorted.0;
      }

has_some : {g : ℕ} {l : List ℕ} → Has g l → 0 < length l
has_some here = omega arith
has_some (there h) = omega arith

-- An array holds the keys of the sixteen, and no key is the largest number.
pub record Valued (cost : ℕ → ℕ) (keys : List ℕ) : Type 0 where
  pub are : (k : ℕ) → k < 16 → get_or keys k 0 ≡ key_of cost k
  pub small : (k : ℕ) → k < 16 → key_of cost k < 2 ^ 64 - 1

module _ {cost : ℕ → ℕ} {keys : List ℕ} (v : Valued cost keys) where
  keyed_coming : (from : ℕ) (rest : List ℕ) (key : ℕ) → Coming cost from rest → (k : Keyed keys from 16 key) → Has k.number rest
  keyed_coming from rest key c k = c.has k.number k.among (omega (arith, v.are k.number k.among, k.is, k.reached))

  coming_next : (from : ℕ) (rest : List ℕ) (key : ℕ) → Coming cost from rest → Next keys from 16 key → Due cost key rest
  coming_next from [] key c p = ⊎_elim (λ e. over e) (λ k. absurd (omega (arith, has_some (keyed_coming from [] key c k)))) p.one
  coming_next from (f ∷ rest) key c p =
      let f-small = c.below.0 in
      let most : key ≤ key_of cost f = omega (arith, v.are f f-small, p.least f f-small (omega (arith, v.are f f-small, c.reached.0))) in
      let least : key_of cost f ≤ key =
      ⊎_elim
      (λ e. omega (arith, v.small f f-small))
      (λ k. omega (arith, v.are k.number k.among, k.is, first_least cost f k.number rest f-small c.sorted.0 (keyed_coming from (f ∷ rest) key c k)))
      p.one in
      let e : key ≡ key_of cost f = omega arith in
      due {rest = rest} f-small e (rw e (coming_rest cost from f rest c))

  pub due_next : {from : ℕ} {rest : List ℕ} {key : ℕ} → Coming cost from rest → key ≡ next_key keys from 16 → Due cost key rest
  due_next {from} {rest} c e = rw e (coming_next from rest _ c (next_key_is keys from 16))

  pub due_over : {rest : List ℕ} {key : ℕ} → Due cost key rest → 2 ^ 64 - 1 ≤ key → rest ≡ []
  due_over (over e) h = refl
  due_over (due {f} small e c) h = absurd (omega (arith, v.small f small))

-- The next key lies further on.
pub next_reached : (keys : List ℕ) (from n : ℕ) → from ≤ 2 ^ 64 - 1 → from ≤ next_key keys from n
next_reached keys from n h = ⊎_elim (λ e. omega arith) (λ k. k.reached) (next_key_is keys from n).one

-- The candidate in turn, of a key that is not the largest number.
pub record Turn (cost : ℕ → ℕ) (key : ℕ) (rest : List ℕ) : Type 0 where
  pub cost_is : key / 16 ≡ cost (key % 16)
  pub tail : List ℕ
  pub split : rest ≡ key % 16 ∷ tail
  pub coming : Coming cost (key + 1) tail

pub turn : {cost : ℕ → ℕ} {key : ℕ} {rest : List ℕ} → Due cost key rest → key < 2 ^ 64 - 1 → Turn cost key rest
turn (over e) h = absurd (omega arith)
turn {cost} {key} (due {f} {rest} small e c) h =
    let number : key % 16 ≡ f = omega arith in
    let first : key / 16 ≡ cost f = omega arith in
    record { cost_is = first ∙ ap cost (sym number); tail = rest; split = ap (λ (k : ℕ). k ∷ rest) (sym number); coming = c }
