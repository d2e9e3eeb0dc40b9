-- The rules for a frame of a kind, at the start of the bytes. Assumes nothing.
use Prim.Native.Nat.{ℕ}
use mathlib.Core.Path.{◌≡◌}
use mathlib.Core.List.{List}
use lib.ListN.{length}
use Rattle.refusal.specs.Rules.{first_of}
use Rattle.format.specs.Header.{header_at}
use Rattle.format.specs.Part.{length_of}
use Rattle.format.specs.Checks.{frame_rules}
use Rattle.format.specs.declared.frame.FrameHeader.{FrameHeader}
use Rattle.format.specs.declared.checks.Kind.{Kind}
use Rattle.format.specs.declared.checks.Kind.TheVariants.{Any, Like}
use Rattle.survey.specs.Parts.{reader_for}

pub rules_here : (kind : Kind) (b : List ℕ) (h : FrameHeader) (len : ℕ) → h ≡ header_at b 0 → len ≡ length_of h
    → first_of ((reader_for kind).frame b) ≡ first_of (frame_rules kind h len (length b))
rules_here Any b h len e l = rw (l, e)
rules_here (Like f) b h len e l = rw (l, e)
