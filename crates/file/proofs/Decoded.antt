-- Whole-file decoding: for at most 4294967295 bytes and enough room, the answer is an acceptance exactly where the grammar has a cut, which is then
-- the only one, and the samples are those of its frames in order. Assumes nothing.
use Prim.Native.Nat.{ℕ, ◌≤◌}
use mathlib.Core.Path.{◌≡◌, sym}
use mathlib.Core.List.{List}
use native.Mathlib.Omega.{arith}
use lib.ListN.{length}
use Rattle.refusal.specs.Rules.{good, ◌then◌}
use Rattle.refusal.proofs.Rules.{Quiet, none_fires, after_good, then_good, good_same}
use Rattle.word.proofs.Tests.{tests}
use Rattle.format.specs.Format.{most_bytes}
use Rattle.format.specs.Grammar.{Cut, IsCut}
use Rattle.file.specs.Walk.{room_rules}
use Rattle.file.specs.Whole.{Audio, audio_in, audio_of, cut_of, decode, long_rules, with_room}
use Rattle.file.proofs.Accepted.{complete, one_cut, sound}

-- a file that holds audio, whatever the room
pub record Holds (b : List ℕ) (a : Audio) : Type 0 where
  pub cut : Cut
  pub is_cut : IsCut cut b
  pub only : (k : Cut) → IsCut k b → k ≡ cut
  pub audio : a ≡ audio_of cut
  pub few_bytes : length b ≤ most_bytes

pub holds : (b : List ℕ) (a : Audio) → audio_in b ≡ good a → Holds b a
unfolding audio_in
holds b a e =
    let passed = after_good (long_rules b) (cut_of b then λ k. good (audio_of k)) a e in
    let k = then_good (cut_of b) (λ k. good (audio_of k)) a passed.1 in
    let is = sound b k.0 k.1 in
    record {
      cut = k.0;
      is_cut = is;
      only = λ l i. one_cut b l k.0 i is;
      audio = sym (good_same _ a k.2);
      few_bytes = omega (arith, tests);
    }

pub held : (b : List ℕ) (k : Cut) → IsCut k b → length b ≤ most_bytes → audio_in b ≡ good (audio_of k)
unfolding audio_in
held b k i few = rw (none_fires (long_rules b) (omega (arith, tests)), complete b k i)

-- what an acceptance says
pub record Accepted (room : ℕ) (b : List ℕ) (a : Audio) : Type 0 where
  pub holds : Holds b a
  pub enough_room : length a.samples ≤ room

pub accepted : (room : ℕ) (b : List ℕ) (a : Audio) → decode room b ≡ good a → Accepted room b a
unfolding decode
accepted room b a e =
    let found = then_good (audio_in b) (with_room room) a e in
    let fitted = after_good (room_rules room found.0.samples) (good found.0) a found.2 in
    let same : found.0 ≡ a = good_same _ a fitted.1 in
    let room_for : length found.0.samples ≤ room = omega (arith, tests) in
    record { holds = holds b a (rw same at found.1); enough_room = rw same at room_for }

pub accepts : (room : ℕ) (b : List ℕ) (k : Cut) → IsCut k b → length b ≤ most_bytes → length (audio_of k).samples ≤ room
    → decode room b ≡ good (audio_of k)
unfolding decode
accepts room b k i few enough =
    let quiet : Quiet (room_rules room (audio_of k).samples) = omega (arith, tests) in
    rw (held b k i few, none_fires (room_rules room (audio_of k).samples) quiet)
