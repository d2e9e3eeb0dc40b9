-- Any input: what is said of it, by what is said of the file that it holds. Assumes nothing.
use Prim.Native.Nat.{ℕ, ◌≤◌}
use mathlib.Core.Path.{◌≡◌, refl, sym, ◌∙◌}
use mathlib.Core.Logic.{◌⊎◌, inl, inr, ⊎_elim}
use mathlib.Core.Bool.{Bool, true, false}
use mathlib.Core.List.{List, ◌∷◌}
use native.Mathlib.Omega.{arith}
use borrow.Author.Tests.{le-ltb, ltb-false, ltb-true}
use lib.Dec.{ltb}
use lib.ListN.{length, take}
use lib.Seq.{take_all}
use Rattle.refusal.specs.Rules.{refused}
use Rattle.refusal.proofs.Rules.{fires, none_fires}
use Rattle.word.proofs.Tests.{tests}
use Rattle.format.specs.Format.{most_bytes}
use Rattle.format.specs.Grammar.{Cut, Each, IsCut}
use Rattle.file.specs.Whole.{audio_in, audio_of, long_rules}
use Rattle.play.specs.Played.{Said, file_played, nine_first, nothing, number, played, too_large}
use Rattle.play.proofs.Terms.{FramesThen, Heard, Small, StopsLarge}
use Rattle.play.proofs.Files.{file_heard, file_refused, file_silent, file_too_large, file_whole, large_silent, number_large, number_silent}

-- ---- 9 goes before every other number, and before silence

nine_nothing : (long : Bool) (s : Said) → nine_first long s ≡ nothing → (long ≡ false) × (s ≡ nothing)
nine_nothing false s e = (refl, e)
nine_nothing true nothing e = number_silent 9 e
nine_nothing true (number n) e = number_silent 9 e
nine_nothing true too_large e = large_silent e

nine_number : (long : Bool) (s : Said) (n : ℕ) → nine_first long s ≡ number n → ((long ≡ true) × (9 ≡ n)) ⊎ ((long ≡ false) × (s ≡ number n))
nine_number false s n e = inr (refl, e)
nine_number true nothing n e = inl (refl, cc)
nine_number true (number m) n e = inl (refl, cc)
nine_number true too_large n e = number_large n (sym e)

nine_large : (long : Bool) (s : Said) → nine_first long s ≡ too_large → s ≡ too_large
nine_large false s e = e
nine_large true nothing e = number_large 9 e
nine_large true (number m) e = number_large 9 e
nine_large true too_large e = refl

large_nine : (long : Bool) → nine_first long too_large ≡ too_large
large_nine false = refl
large_nine true = refl

-- ---- the file that an input holds: its first bytes, which are all of them where they are few enough

module _ (b : List ℕ) where
  few_played : length b ≤ most_bytes → played b ≡ file_played b
  unfolding played
  few_played few = rw (le-ltb most_bytes (length b) few, take_all most_bytes b few)

  pub whole_played : (k : Cut) → IsCut k b → length b ≤ most_bytes → Each Small (k.first ∷ k.others)
      → played b ≡ record { samples = (audio_of k).samples; said = nothing }
  whole_played k i few small = few_played few ∙ file_whole b k i small

  pub silent_cut : (played b).said ≡ nothing → (length b ≤ most_bytes) × (k : Cut) × IsCut k b × Each Small (k.first ∷ k.others)
  unfolding played
  silent_cut e =
      let said = nine_nothing (ltb most_bytes (length b)) (file_played (take most_bytes b)).said e in
      let few = ltb-false most_bytes (length b) said.0 in
      let k = file_silent b (rw (take_all most_bytes b few) at said.1) in
      (few, k.0, k.1, k.2)

  pub number_refused : (n : ℕ) → (played b).said ≡ number n → audio_in b ≡ refused n
  unfolding played audio_in
  number_refused n e =
      ⊎_elim (λ h. let over = ltb-true most_bytes (length b) h.0 in rw (fires 0 (long_rules b) 9 (omega (arith, tests)), h.1))
      (λ h.
      let few = ltb-false most_bytes (length b) h.0 in
      rw (none_fires (long_rules b) (omega (arith, tests)), file_refused b n (rw (take_all most_bytes b few) at h.1)))
      (nine_number (ltb most_bytes (length b)) (file_played (take most_bytes b)).said n e)

  pub all_heard : Heard (take most_bytes b) (played b)
  unfolding played
  all_heard =
      let h = file_heard (take most_bytes b) in
      record {
        frames = h.frames;
        rest = h.rest;
        start = h.start;
        samples = h.samples;
        headless = h.headless;
        no_more = h.no_more;
        large = λ e. h.large (nine_large (ltb most_bytes (length b)) (file_played (take most_bytes b)).said e);
      }

  pub stops_large : (frames : List (List ℕ)) (rest : List ℕ) → FramesThen (take most_bytes b) frames rest → StopsLarge (take most_bytes b) rest
      → (played b).said ≡ too_large
  unfolding played
  stops_large frames rest s l = rw (file_too_large (take most_bytes b) frames rest s l) (large_nine (ltb most_bytes (length b)))
