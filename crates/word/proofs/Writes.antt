-- Laws of `written` and `interleaved`: lengths, and what stands at each index. Assumes nothing.
use mathlib.Core.Path.{◌≡◌, refl, ◌∙◌, ap, sym, subst}
use mathlib.Core.List.{List, [], ◌∷◌, ◌++◌, append_assoc, append-nil}
use borrow.Rule.Slice.PartMut.{put_mid}
use mathlib.Core.Logic.{◌≢◌, ◌⊎◌, inl, inr, ⊎_elim, dite}
use Prim.Native.Nat.{ℕ, zero, suc, ◌+◌, ◌-◌, ◌*◌, ◌/◌, ◌%◌, ◌≤◌, ◌<◌, min}
use native.Mathlib.Decide.{dec_lt}
use native.Mathlib.Omega.{arith}
use native.Mathlib.Nat.{mul-lt-mul_of_pos_right, not-suc-le-zero, le_of_suc-le-suc, eq-or-lt_of_le, div-add-mod', div-lt_iff_lt-mul, mod-lt, add-zero, add-suc, add_assoc, add-mul, suc-add, zero-add, mul-one, min-eq_left, min-eq_right}
use lib.Arith.{digits_lt, digits_mod}
use lib.ListN.{length, get_or, set, take, drop, length-set, length-append, length-take, length-drop, take-append-drop}
use lib.Seq.{get_or-set_same, get_or-set_other, ext_get_or, set_at, drop-cons, set-append_left, length-take-le, drop-append_seam, append_snoc, drop-drop}
use Rattle.word.specs.Table.{table}
use Rattle.word.proofs.Tables.{length_table, table_last}
use Rattle.word.specs.Parts.{interleaved, written}
use native.Mathlib.Numerals.{add-one}

module _ {A : Type 0} (f : ℕ → A) (out : List A) (start stride : ℕ) where
  pub length_written : (n : ℕ) → length (written f out start stride n) ≡ length out
  unfolding written
  length_written zero = refl
  length_written (suc n) = rw length-set (length_written n)

  -- an index that no store goes to
  pub written_other : (n j : ℕ) (d : A) → ((i : ℕ) → i < n → j ≢ start + i * stride) → get_or (written f out start stride n) j d ≡ get_or out j d
  unfolding written
  written_other zero j d away = refl
  written_other (suc n) j d away = get_or-set_other (written f out start stride n) (start + n * stride) j (f n) d (away n (omega arith)) ∙ written_other n j d (λ i h. away i (omega arith))

  -- the last store
  written_last : (n : ℕ) (d : A) → start + n * stride < length out → get_or (written f out start stride (suc n)) (start + n * stride) d ≡ f n
  unfolding written
  written_last n d h = get_or-set_same (written f out start stride n) (start + n * stride) (f n) d (rw length_written h)

  -- the i-th store stands, since no later one goes to its index
  pub written_at : (n i : ℕ) (d : A) → zero < stride → i < n → start + i * stride < length out → get_or (written f out start stride n) (start + i * stride) d ≡ f i
  unfolding written
  written_at zero i d pos h room = absurd (not-suc-le-zero h)
  written_at (suc n) i d pos h room =
      ⊎_elim
      (λ e. subst (λ (k : ℕ). get_or (written f out start stride (suc n)) (start + k * stride) d ≡ f k) (sym e)
      (written_last n d (subst (λ (k : ℕ). start + k * stride < length out) e room)))
      (λ lt. let before : i * stride < n * stride = mul-lt-mul_of_pos_right lt pos in
      get_or-set_other (written f out start stride n) (start + n * stride) (start + i * stride) (f n) d (λ e. omega arith) ∙ written_at n i d pos lt room)
      (eq-or-lt_of_le (le_of_suc-le-suc h))

  -- a loop that stores only its first `count` turns' values: a turn that stores, and one that does not
  pub written_more : (i count : ℕ) → i < count → set (written f out start stride (min i count)) (start + i * stride) (f i) ≡ written f out start stride (min (i + 1) count)
  unfolding written
  written_more i count h =
      let now : min i count ≡ i = min-eq_left (omega arith) in
      let then : min (i + 1) count ≡ suc i = min-eq_left (omega arith) ∙ add-one i in
      rw (now, then)

  pub written_done : (i count : ℕ) → count ≤ i → written f out start stride (min i count) ≡ written f out start stride (min (i + 1) count)
  written_done i count h = ap (written f out start stride) (min-eq_right h ∙ sym (min-eq_right (omega arith)))

  -- two functions that agree on what is stored
  pub written_ext : (g : ℕ → A) (n : ℕ) → ((i : ℕ) → i < n → f i ≡ g i) → written f out start stride n ≡ written g out start stride n
  unfolding written
  written_ext g zero same = refl
  written_ext g (suc n) same = rw (written_ext g n (λ i h. same i (omega arith)), same n (omega arith))

-- stores cut in two
pub written_join_by : {A : Type 0} (f : ℕ → A) (out : List A) (start stride a n : ℕ)
    → written (λ i. f (a + i)) (written f out start stride a) (start + a * stride) stride n ≡ written f out start stride (a + n)
unfolding written
written_join_by f out start stride a zero = rw add-zero
written_join_by f out start stride a (suc n) = simp (written_join_by f out start stride a n, add-suc, add-mul, add_assoc)

-- and stores in a row
pub written_join_from : {A : Type 0} (f : ℕ → A) (out : List A) (start a n : ℕ)
    → written (λ i. f (a + i)) (written f out start 1 a) (start + a) 1 n ≡ written f out start 1 (a + n)
written_join_from f out start a n = rw mul-one at (written_join_by f out start 1 a n)

pub written_join : {A : Type 0} (f : ℕ → A) (out : List A) (a n : ℕ)
    → written (λ i. f (a + i)) (written f out 0 1 a) a 1 n ≡ written f out 0 1 (a + n)
written_join f out a n = rw zero-add at (written_join_from f out 0 a n)

-- two lists of one length that agree at each index; the default is an element, so none is asked for
by_index : {A : Type 0} (out xs ys : List A) → length xs ≡ length out → length ys ≡ length out
    → ((i : ℕ) (d : A) → i < length out → get_or xs i d ≡ get_or ys i d) → xs ≡ ys
by_index out [] [] ex ey same = refl
by_index out [] (y ∷ ys) ex ey same = absurd (omega (arith, ex, ey))
by_index out (x ∷ xs) ys ex ey same = ext_get_or x (x ∷ xs) ys (ex ∙ sym ey) (λ i h. same i x (rw (← ex) h))

module _ {A : Type 0} (f : ℕ → ℕ → A) (out : List A) (start channels n : ℕ) where
  pub length_interleaved : (k : ℕ) → length (interleaved f out start channels n k) ≡ length out
  unfolding interleaved
  length_interleaved zero = refl
  length_interleaved (suc k) = rw length_written (length_interleaved k)

  -- the i-th value of the channel c stands, since no other channel's store goes to its index
  pub interleaved_at : (k c i : ℕ) (d : A) → k ≤ channels → c < k → i < n → start + n * channels ≤ length out
      → get_or (interleaved f out start channels n k) (start + c + i * channels) d ≡ f c i
  unfolding interleaved
  interleaved_at zero c i d within h hi room = absurd (not-suc-le-zero h)
  interleaved_at (suc k) c i d within h hi room =
      let below : i * channels + k < n * channels = digits_lt hi (omega arith) in
      ⊎_elim
      (λ (e : c ≡ k). subst (λ (m : ℕ). get_or (interleaved f out start channels n (suc k)) (start + m + i * channels) d ≡ f m i) (sym e)
      (written_at (f k) (interleaved f out start channels n k) (start + k) channels n i d (omega arith) hi (rw length_interleaved (omega arith))))
      (λ lt. written_other (f k) (interleaved f out start channels n k) (start + k) channels n (start + c + i * channels) d
      (λ i' h' (e : start + c + i * channels ≡ start + k + i' * channels).
      let same : i * channels + c ≡ i' * channels + k = omega arith in
      let clash : c ≡ k = sym (digits_mod i (omega arith)) ∙ ap (λ (m : ℕ). m % channels) same ∙ digits_mod i' (omega arith) in
      omega arith)
      ∙ interleaved_at k c i d (omega arith) lt hi room)
      (eq-or-lt_of_le (le_of_suc-le-suc h))

  -- what lies before or after the n values of each channel is as it was
  pub interleaved_other : (k j : ℕ) (d : A) → k ≤ channels → (j < start) ⊎ (start + n * channels ≤ j)
      → get_or (interleaved f out start channels n k) j d ≡ get_or out j d
  unfolding interleaved
  interleaved_other zero j d within outside = refl
  interleaved_other (suc k) j d within outside =
      written_other (f k) (interleaved f out start channels n k) (start + k) channels n j d
      (λ i hi e.
      let below : i * channels + k < n * channels = digits_lt hi (omega arith) in
      ⊎_elim (λ lt. omega arith) (λ le. omega arith) outside)
      ∙ interleaved_other k j d (omega arith) outside

  -- by index: all channels' values in turn
  pub interleaved_by_index : (j : ℕ) (d : A) → zero < channels → j < n * channels → start + n * channels ≤ length out
      → get_or (interleaved f out start channels n channels) (start + j) d ≡ f (j % channels) (j / channels)
  interleaved_by_index j d pos h room =
      let whole : j / channels * channels + j % channels ≡ j = div-add-mod' j channels in
      let place : start + j % channels + j / channels * channels ≡ start + j = omega arith in
      rw place at (interleaved_at channels (j % channels) (j / channels) d (omega arith) (mod-lt j pos) ((div-lt_iff_lt-mul pos).1 h) room)

  -- all channels' stores are one run of stores in a row: what a reader sees, with no stride
  pub interleaved_flat : zero < channels → start + n * channels ≤ length out
      → interleaved f out start channels n channels ≡ written (λ j. f (j % channels) (j / channels)) out start 1 (n * channels)
  interleaved_flat some room =
      let flat : ℕ → A = λ j. f (j % channels) (j / channels) in
      let strided : List A = interleaved f out start channels n channels in
      let row : List A = written flat out start 1 (n * channels) in
      by_index out strided row (length_interleaved channels) (length_written flat out start 1 (n * channels))
      (λ i d h.
      dite (dec_lt i start)
      (λ before. interleaved_other channels i d (omega arith) (inl before) ∙ sym (written_other flat out start 1 (n * channels) i d (λ j hj e. omega (arith, mul-one j))))
      (λ after.
      dite (dec_lt (i - start) (n * channels))
      (λ inside.
      let place : start + (i - start) ≡ i = omega arith in
      let unit : start + (i - start) * 1 ≡ i = omega (arith, mul-one (i - start)) in
      (rw place at (interleaved_by_index (i - start) d some inside room))
      ∙ sym (rw unit at (written_at flat out start 1 (n * channels) (i - start) d (omega arith) inside (omega arith))))
      (λ past. interleaved_other channels i d (omega arith) (inr (omega arith)) ∙ sym (written_other flat out start 1 (n * channels) i d (λ j hj e. omega (arith, mul-one j))))))

-- stores in a row: what lies before them, the values, what lies after them
pub written_list : {A : Type 0} (f : ℕ → A) (out : List A) (start n : ℕ) → start + n ≤ length out
    → written f out start 1 n ≡ take start out ++ (table n f ++ drop (start + n) out)
unfolding written table
written_list f out start zero room = rw add-zero (sym (take-append-drop start out))
written_list {A} f out start (suc n) room =
    let front : List A = take start out ++ table n f in
    let rest : List A = drop (start + suc n) out in
    let place : length front ≡ start + n * 1 = rw (length-append, length-take-le start out (omega arith), length_table, mul-one) in
    let next : drop (start + n) out ≡ get_or out (start + n) (f n) ∷ rest = rw add-suc (drop-cons out (start + n) (f n) (omega arith)) in
    let before : written f out start 1 n ≡ front ++ (get_or out (start + n) (f n) ∷ rest) = rw (append_assoc, ← next) (written_list f out start n (omega arith)) in
    ap (λ (l : List A). set l (start + n * 1) (f n)) before
    ∙ set_at front (get_or out (start + n) (f n)) rest (f n) (start + n * 1) place
    ∙ append_assoc (take start out) (table n f) (f n ∷ rest)
    ∙ ap (λ (l : List A). take start out ++ l) (sym (append_snoc (table n f) (f n) rest) ∙ ap (λ (l : List A). l ++ rest) (sym (table_last n f)))

-- stores in the first of two lists
pub written_left : {A : Type 0} (f : ℕ → A) (xs ys : List A) (start n : ℕ) → start + n ≤ length xs
    → written f (xs ++ ys) start 1 n ≡ written f xs start 1 n ++ ys
unfolding written
written_left f xs ys start zero room = refl
written_left f xs ys start (suc n) room =
    let here : start + n * 1 < length (written f xs start 1 n) = rw length_written (omega (arith, mul-one n)) in
    rw (written_left f xs ys start n (omega arith)) (set-append_left (written f xs start 1 n) ys (start + n * 1) (f n) here)

set_right : {A : Type 0} (xs ys : List A) (i : ℕ) (a : A) → set (xs ++ ys) (length xs + i) a ≡ xs ++ set ys i a
set_right [] ys i a = rw zero-add
set_right {A} (x ∷ xs) ys i a = rw suc-add (ap (λ (l : List A). x ∷ l) (set_right xs ys i a))

-- and in the second
pub written_right : {A : Type 0} (f : ℕ → A) (xs ys : List A) (start stride n : ℕ)
    → written f (xs ++ ys) (length xs + start) stride n ≡ xs ++ written f ys start stride n
unfolding written
written_right f xs ys start stride zero = refl
written_right f xs ys start stride (suc n) =
    rw (written_right f xs ys start stride n, add_assoc) (set_right xs (written f ys start stride n) (start + n * stride) (f n))

-- the first of two lists, stored over whole
pub written_front : {A : Type 0} (f : ℕ → A) (xs ys : List A) → written f (xs ++ ys) 0 1 (length xs) ≡ table (length xs) f ++ ys
written_front f xs ys =
    let room : 0 + length xs ≤ length (xs ++ ys) = rw length-append (omega arith) in
    written_list f (xs ++ ys) 0 (length xs) room ∙ rw (zero-add, drop-append_seam)

-- a list stored over whole, and a part of one that is stored over whole and put back
pub written_whole : {A : Type 0} (f : ℕ → A) (xs : List A) (n : ℕ) → length xs ≡ n → written f xs 0 1 n ≡ table n f
written_whole f xs n long = simp (append-nil, long) at (written_front f xs [])

pub written_part : {A : Type 0} (f : ℕ → A) (out : List A) (start k n : ℕ) → k ≡ n → start + n ≤ length out
    → put_mid start k out (written f (take k (drop start out)) 0 1 n) ≡ written f out start 1 n
written_part {A} f out start k n same room =
    let long : length (take n (drop start out)) ≡ n = simp (length-take, length-drop) (omega arith) in
    rw (same, written_whole f (take n (drop start out)) n long, drop-drop) (sym (written_list f out start n room))
