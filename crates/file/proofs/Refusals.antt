-- When whole-file decoding gives refusals 9, 2 and 7: exactly when the table says. Assumes nothing.
use Prim.Native.Nat.{ℕ, zero, suc, ◌≤◌, ◌<◌}
use mathlib.Core.Path.{◌≡◌, refl}
use mathlib.Core.Logic.{◌≢◌, ◌↔◌, ◌⊎◌, inl, inr, ⊎_elim}
use mathlib.Core.Bool.{Bool, true, false}
use mathlib.Core.List.{List, [], ◌∷◌, ◌++◌}
use mathlib.Core.Option.{none, some, none-ne-some, some-injective}
use native.Mathlib.Omega.{arith}
use lib.Dec.{T, ltb, ltb→lt}
use lib.ListN.{length, take, drop}
use Rattle.refusal.specs.Rules.{Answer, refused, good, Rule, ◌gives◌, first_of, after, ◌then◌}
use Rattle.refusal.proofs.Rules.{after_refused, fires, never, none_fires, quiet, then_refused, unless_refused}
use Rattle.word.proofs.Tests.{tests}
use Rattle.format.specs.Format.{most_bytes}
use Rattle.format.specs.FileHeader.{file_rules, is_fixed, total_of}
use Rattle.format.specs.Header.{header_at, header_rules}
use Rattle.format.specs.Part.{cut_rules, length_of}
use Rattle.format.specs.Checks.{frame_rules, kind_rules, same_rules, state_rules}
use Rattle.format.specs.Grammar.{Cut, IsCut}
use Rattle.format.specs.declared.frame.FrameHeader.{FrameHeader}
use Rattle.format.specs.declared.checks.First.{First}
use Rattle.format.specs.declared.checks.Kind.TheVariants.{Like}
use Rattle.file.specs.Walk.{Walk, past_frame, ends, frame_at, room_rules, rules_at, step, walk_by, walk_of, with_frame}
use Rattle.file.specs.Whole.{Audio, audio_in, audio_of, body, body_for, cut_of, decode, like_first, long_rules, some_rules, tail_rules, whole_file, with_first, with_room}
use Rattle.file.proofs.Accepted.{HeadGood, head_good, quiet_head}
use Rattle.file.proofs.Decoded.{held, holds}

-- every number that the rules can give is one of P
abbrev Give : (ℕ → Type 0) → List Rule → Type 0
Give P [] = Unit {0}
Give P ((test gives n) ∷ rules) = P n × Give P rules

module _ (P : ℕ → Type 0) where
  given : (l : List Rule) (n : ℕ) → first_of l ≡ some n → Give P l → P n
  unfolding first_of
  given [] n e g = absurd (none-ne-some n e)
  given ((true gives m) ∷ l) n e g = rw (some-injective m n e) at g.0
  given ((false gives m) ∷ l) n e g = given l n e g.1

  give_both : (a b : List Rule) → Give P a → Give P b → Give P (a ++ b)
  give_both [] b p q = q
  give_both ((t gives n) ∷ a) b p q = (p.0, give_both a b p.1 q)

-- a frame gives 3, 4, 5 or 6, and so does a walk
module _ (P : ℕ → Type 0) (three : P 3) (four : P 4) (five : P 5) (six : P 6) where
  header_gives : (h : FrameHeader) → Give P (header_rules h)
  unfolding header_rules
  header_gives h = (three, (three, (three, (three, (three, (six, tt))))))

  state_gives : (fixed : Bool) (c left : ℕ) → Give P (state_rules fixed c left)
  state_gives true c left = tt
  state_gives false c left = (five, tt)

  like_gives : (f : First) (h : FrameHeader) (left : ℕ) → Give P (kind_rules (Like f) h left)
  like_gives f h left = give_both P (state_rules f.fixed h.channels left) (same_rules f.channels f.rate h) (state_gives f.fixed h.channels left) (four, (four, tt))

  frame_gives : (fixed : Bool) (c r : ℕ) (b : List ℕ) → Give P (rules_at (like_first fixed c r) b)
  unfolding frame_rules
  frame_gives fixed c r b =
      let h = header_at b 0 in
      let like = kind_rules (like_first fixed c r) h (length b) in
      let whole = cut_rules (length_of h) (length b) in
      give_both P (header_rules h) (like ++ whole) (header_gives h)
      (give_both P like whole (like_gives (record { fixed = fixed; channels = c; rate = r }) h (length b)) (five, tt))

  module _ (fixed : Bool) (c r : ℕ) where
    ends_gives : (b : List ℕ) (n : ℕ) → ends (whole_file fixed c r) b ≡ refused n → P n
    ends_gives b n e = given P (tail_rules (length b)) n (after_refused (tail_rules (length b)) (record { frames = []; tail = b }) n e) (five, tt)

    walk_by_gives : (fuel : ℕ) (b : List ℕ) (n : ℕ) → walk_by (whole_file fixed c r) fuel b ≡ refused n → P n
    unfolding walk_by
    walk_by_gives zero b n e = ends_gives b n e
    walk_by_gives (suc fuel) b n e = go (ltb (length b) 8) (walk_by_gives fuel (past_frame b) n) e
      where
        rest : Answer Walk
        rest = walk_by (whole_file fixed c r) fuel (past_frame b)

        go : (short : Bool) → (rest ≡ refused n → P n) → step (whole_file fixed c r) short b (first_of (rules_at (like_first fixed c r) b)) rest ≡ refused n → P n
        go true ih e = ends_gives b n e
        go false ih e =
            ⊎_elim (λ f. given P (rules_at (like_first fixed c r) b) n f (frame_gives fixed c r b))
            (λ q. ⊎_elim ih (λ y. never _ n y.2) (then_refused rest (with_frame (frame_at b)) n q.1))
            (unless_refused (first_of (rules_at (like_first fixed c r) b)) (rest then with_frame (frame_at b)) n e)

    -- after the first 8 bytes of a frame are there
    body_gives : (b : List ℕ) (n : ℕ) → body_for fixed c r b ≡ refused n → (first_of (some_rules b) ≡ some n) ⊎ P n
    unfolding body_for walk_of
    body_gives b n e =
        ⊎_elim inl
        (λ q. inr (⊎_elim (λ f. given P (rules_at (like_first fixed c r) b) n f (frame_gives fixed c r b)) (λ w. walk_by_gives (length (past_frame b)) (past_frame b) n w.1)
        (unless_refused (first_of (rules_at (like_first fixed c r) b)) (walk_of (whole_file fixed c r) (past_frame b)) n q.1)))
        (unless_refused (first_of (some_rules b)) (after (rules_at (like_first fixed c r) b) (walk_of (whole_file fixed c r) (past_frame b))) n e)

  -- where a file's refusal comes from
  cut_gives : (b : List ℕ) (n : ℕ) → cut_of b ≡ refused n → (first_of (file_rules b) ≡ some n) ⊎ ((first_of (file_rules b) ≡ none) × ((first_of (some_rules (drop 8 b)) ≡ some n) ⊎ P n))
  unfolding cut_of
  cut_gives b n e =
      let rest = drop 8 b in
      ⊎_elim inl
      (λ q. inr (
        q.0,
        ⊎_elim (body_gives (is_fixed (total_of b)) (header_at rest 0).channels (header_at rest 0).rate rest n) (λ y. never _ n y.2)
            (then_refused (body (is_fixed (total_of b)) rest) (with_first (take 8 b) (frame_at rest)) n q.1),
      ))
      (unless_refused (first_of (file_rules b)) (body (is_fixed (total_of b)) rest then with_first (take 8 b) (frame_at rest)) n e)

-- a list of one rule
single : (t : Bool) (n m : ℕ) → first_of ((t gives n) ∷ []) ≡ some m → T t × (n ≡ m)
unfolding first_of
single true n m e = (tt, some-injective n m e)
single false n m e = absurd (none-ne-some m e)

-- no file rule and no frame rule gives 2 but the one, and none gives 7 or 9
file_gives : (P : ℕ → Type 0) → P 1 → P 5 → (b : List ℕ) → Give P (file_rules b)
unfolding file_rules
file_gives P one five b = (five, (one, (five, tt)))

cut_number : (b : List ℕ) (n : ℕ) → cut_of b ≡ refused n → (n ≢ 7) × (n ≢ 9)
cut_number b n e =
    ⊎_elim (λ f. given Q (file_rules b) n f (file_gives Q (omega arith) (omega arith) b))
    (λ q. ⊎_elim (λ f. let two = single _ 2 n f in omega arith) (λ p. p) q.1)
    (cut_gives Q (omega arith) (omega arith) (omega arith) (omega arith) b n e)
  where
    Q : ℕ → Type 0
    Q n = (n ≢ 7) × (n ≢ 9)

module _ (room : ℕ) (b : List ℕ) where
  few : first_of (long_rules b) ≡ none → length b ≤ most_bytes
  few e = let q = quiet (long_rules b) e in omega (arith, tests)

  -- where a refusal of whole-file decoding comes from: the length, the file, or the room
  file_from : (n : ℕ) → audio_in b ≡ refused n → (first_of (long_rules b) ≡ some n) ⊎ ((length b ≤ most_bytes) × (cut_of b ≡ refused n))
  unfolding audio_in
  file_from n e =
      ⊎_elim inl
      (λ q. inr (few q.0, ⊎_elim (λ c. c) (λ y. never _ n y.2) (then_refused (cut_of b) (λ k. good (audio_of k)) n q.1)))
      (unless_refused (first_of (long_rules b)) (cut_of b then λ k. good (audio_of k)) n e)

  abbrev NoRoom : ℕ → Type 0
  NoRoom n = (7 ≡ n) × (length b ≤ most_bytes) × (k : Cut) × IsCut k b × (room < length (audio_of k).samples)

  room_from : (n : ℕ) (a : Audio) → audio_in b ≡ good a → with_room room a ≡ refused n → NoRoom n
  room_from n a e f =
      let h = holds b a e in
      let fired = single _ 7 n (after_refused (room_rules room a.samples) a n f) in
      let less : room < length a.samples = ltb→lt room (length a.samples) fired.0 in
      (fired.1, h.few_bytes, h.cut, h.is_cut, rw h.audio at less)

  decode_from : (n : ℕ) → decode room b ≡ refused n → (first_of (long_rules b) ≡ some n) ⊎ (((length b ≤ most_bytes) × (cut_of b ≡ refused n)) ⊎ NoRoom n)
  unfolding decode
  decode_from n e =
      ⊎_elim (λ f. ⊎_elim inl (λ q. inr (inl q)) (file_from n f)) (λ y. inr (inr (room_from n y.0 y.1 y.2)))
      (then_refused (audio_in b) (with_room room) n e)

  pub nine : (decode room b ≡ refused 9) ↔ (most_bytes < length b)
  unfolding decode audio_in
  nine = (
    λ e. ⊎_elim (λ f. ltb→lt most_bytes (length b) (single _ 9 9 f).0)
        (λ q. ⊎_elim (λ c. absurd ((cut_number b 9 c.1).1 refl)) (λ y. let seven = y.0 in omega arith) q) (decode_from 9 e),
    λ l. rw (fires 0 (long_rules b) 9 (omega (arith, tests))),
  )

  pub seven : (decode room b ≡ refused 7) ↔ ((length b ≤ most_bytes) × (k : Cut) × IsCut k b × (room < length (audio_of k).samples))
  unfolding decode
  seven = (
    λ e. ⊎_elim (λ f. let nine = single _ 9 7 f in absurd (omega arith))
        (λ q. ⊎_elim (λ c. absurd ((cut_number b 7 c.1).0 refl)) (λ y. (y.1, y.2, y.3, y.4)) q) (decode_from 7 e),
    λ h. let k = h.1 in rw (held b k h.2 h.0, fires 0 (room_rules room (audio_of k).samples) 7 (omega (arith, tests))),
  )

  two_from : cut_of b ≡ refused 2 → HeadGood b × (length (drop 8 b) < 8)
  two_from c =
      ⊎_elim (λ f. absurd (given (λ n. n ≢ 2) (file_rules b) 2 f (file_gives (λ n. n ≢ 2) (omega arith) (omega arith) b) refl))
      (λ q. (
        head_good b (quiet (file_rules b) q.0),
        ⊎_elim (λ f. ltb→lt (length (drop 8 b)) 8 (single _ 2 2 f).0) (λ p. absurd (p refl)) q.1,
      ))
      (cut_gives (λ n. n ≢ 2) (omega arith) (omega arith) (omega arith) (omega arith) b 2 c)

  pub two : (decode room b ≡ refused 2) ↔ ((length b ≤ most_bytes) × HeadGood b × (length (drop 8 b) < 8))
  unfolding decode audio_in cut_of body_for
  two = (
    λ e. ⊎_elim (λ f. let nine = single _ 9 2 f in absurd (omega arith))
        (λ q. ⊎_elim (λ c. let h = two_from c.1 in (c.0, h.0, h.1)) (λ y. let seven = y.0 in absurd (omega arith)) q) (decode_from 2 e),
    λ h. rw (none_fires (long_rules b) (omega (arith, tests)), none_fires (file_rules b) (quiet_head b h.1), fires 0 (some_rules (drop 8 b)) 2 (omega (arith, tests))),
  )
