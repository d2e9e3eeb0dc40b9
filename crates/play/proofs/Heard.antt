-- The program and whole-file decoding: what is written and said of any input, by the grammar and by the call's answer. Assumes nothing.
use Prim.Native.Nat.{ℕ, ◌≤◌}
use mathlib.Core.Path.{◌≡◌, refl, sym, ap, ◌∙◌}
use mathlib.Core.Logic.{◌↔◌, ◌⊎◌, inl, inr, ⊎_elim}
use mathlib.Core.List.{List, ◌∷◌, ◌++◌}
use lib.IntN.{ℤ}
use lib.ListN.{length, take}
use lib.Seq.{take_all}
use Rattle.refusal.specs.Rules.{good, refused}
use Rattle.refusal.proofs.Rules.{never, refused_one}
use Rattle.format.specs.Format.{most_bytes}
use Rattle.format.specs.Grammar.{Cut, Each, IsCut}
use Rattle.file.specs.Whole.{Audio, audio_in, audio_of, decode}
use Rattle.file.proofs.Accepted.{one_cut}
use Rattle.file.proofs.Decoded.{held, holds}
use Rattle.play.specs.Played.{Played, Said, nothing, number, played, too_large}
use Rattle.play.proofs.Terms.{FramesThen, Heard, Small, StopsLarge}
use Rattle.play.proofs.Files.{first_samples}
use Rattle.play.proofs.Inputs.{all_heard, number_refused, silent_cut, stops_large, whole_played}

module _ (b : List ℕ) where
  -- ---- silence

  -- nothing is said exactly where a file of few enough bytes has a cut by the grammar whose frames the program holds,
  pub silent : ((played b).said ≡ nothing) ↔ ((length b ≤ most_bytes) × (k : Cut) × IsCut k b × Each Small (k.first ∷ k.others))
  silent = (silent_cut b, λ h. ap (λ (p : Played). p.said) (whole_played b h.1 h.2 h.0 h.3))

  -- and then the samples are those of the cut, which are whole-file decoding's
  pub silent_samples : (k : Cut) → IsCut k b → (played b).said ≡ nothing → (played b).samples ≡ (audio_of k).samples
  silent_samples k i e =
      let h = silent.0 e in
      let same = one_cut b h.1 k h.2 i in
      ap (λ (p : Played). p.samples) (whole_played b h.1 h.2 h.0 h.3) ∙ ap (λ (c : Cut). (audio_of c).samples) same

  pub same_samples : (a : Audio) → audio_in b ≡ good a → (played b).said ≡ nothing → (played b).samples ≡ a.samples
  same_samples a e s = let h = holds b a e in silent_samples h.cut h.is_cut s ∙ ap (λ (x : Audio). x.samples) (sym h.audio)

  -- ---- a number is whole-file decoding's refusal, whatever the room

  pub same_number : (n : ℕ) → (played b).said ≡ number n → audio_in b ≡ refused n
  same_number n e = number_refused b n e

  pub decode_number : (room n : ℕ) → (played b).said ≡ number n → decode room b ≡ refused n
  unfolding decode
  decode_number room n e = rw (same_number n e)

  -- ---- whatever is said, the samples are those of the first frames, as many as can be played

  pub heard : Heard (take most_bytes b) (played b)
  heard = all_heard b

  -- of a file that is accepted, the first samples
  pub first_heard : (a : Audio) → audio_in b ≡ good a → (later : List ℤ) × ((played b).samples ++ later ≡ a.samples)
  first_heard a e =
      let h = holds b a e in
      let found = rw (take_all most_bytes b h.few_bytes) at heard in
      let later = first_samples b h.cut h.is_cut found.frames found.rest found.start in
      (later.0, ap (λ xs. xs ++ later.0) found.samples ∙ later.1 ∙ ap (λ (x : Audio). x.samples) (sym h.audio))

  -- ---- "frame too large" is said exactly where frames that can be played stand before one that is too large

  pub large_frame : ((played b).said ≡ too_large)
      ↔ ((frames : List (List ℕ)) × (rest : List ℕ) × FramesThen (take most_bytes b) frames rest × StopsLarge (take most_bytes b) rest)
  large_frame = (λ e. (heard.frames, heard.rest, heard.start, heard.large e), λ h. stops_large b h.0 h.1 h.2 h.3)

  -- ---- what is said, by whole-file decoding's answer

  pub if_accepted : (a : Audio) → audio_in b ≡ good a → ((played b).said ≡ nothing) ⊎ ((played b).said ≡ too_large)
  if_accepted a e = go (played b).said refl
    where
      go : (s : Said) → (played b).said ≡ s → ((played b).said ≡ nothing) ⊎ ((played b).said ≡ too_large)
      go nothing s = inl s
      go (number n) s = never a n (sym e ∙ same_number n s)
      go too_large s = inr s

  pub if_refused : (n : ℕ) → audio_in b ≡ refused n → ((played b).said ≡ number n) ⊎ ((played b).said ≡ too_large)
  if_refused n e = go (played b).said refl
    where
      go : (s : Said) → (played b).said ≡ s → ((played b).said ≡ number n) ⊎ ((played b).said ≡ too_large)
      go nothing s = let h = silent.0 s in never (audio_of h.1) n (sym (held b h.1 h.2 h.0) ∙ e)
      go (number m) s = inl (s ∙ ap number (refused_one m n (sym (same_number m s) ∙ e)))
      go too_large s = inr s

  -- a file that is accepted, with a frame that the program does not hold
  pub not_held : (a : Audio) (k : Cut) → audio_in b ≡ good a → IsCut k b → ¬ Each Small (k.first ∷ k.others) → (played b).said ≡ too_large
  not_held a k e i large = ⊎_elim (λ s. absurd (large (kept s))) (λ s. s) (if_accepted a e)
    where
      kept : (played b).said ≡ nothing → Each Small (k.first ∷ k.others)
      kept s = let h = silent.0 s in rw (one_cut b k h.1 i h.2) h.3
