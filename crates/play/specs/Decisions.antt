-- The program's decisions: what comes next, by the run so far and the bytes that came. Assumes nothing.
use Rattle.std.specs.Prelude.{Option as Maybe, Some, None, is_none, unwrap_or, ℕ, ◌+◌, ◌-◌, min, Bool, false, cond, List, ltb, length, Result, Ok, Err}
use mathlib.Core.Option.{Option, none, some}
use Rattle.refusal.specs.Rules.{first_of}
use Rattle.refusal.specs.Refusals.{number_of}
use Rattle.format.specs.Format.{most_bytes, state_end}
use Rattle.format.specs.FileHeader.{file_rules, is_fixed, total_of}
use Rattle.format.specs.Header.{header_at}
use Rattle.format.specs.Part.{cut_rules, length_of}
use Rattle.format.specs.Checks.{frame_rules}
use Rattle.format.specs.declared.frame.FrameHeader.{FrameHeader}
use Rattle.format.specs.declared.checks.First.{First}
use Rattle.format.specs.declared.checks.Kind.{Kind}
use Rattle.format.specs.declared.checks.Kind.TheVariants.{Like}
use Rattle.file.specs.Whole.{tail_rules}
use Rattle.play.specs.Played.{Said, nothing, number, too_large, most_held, or_say}
use Rattle.play.specs.declared.Run.{Run}
use Rattle.play.specs.declared.Stage.{Stage}
use Rattle.play.specs.declared.Stage.TheVariants.{FileHead, FrameHead, FrameState, FrameBody}
use Rattle.play.specs.declared.Next.{Next}
use Rattle.play.specs.declared.Next.TheVariants.{Read, Play}
use Rattle.play.specs.declared.Stop.{Stop}
use Rattle.play.specs.declared.Stop.TheVariants.{Refused, TooLarge, End}

-- read on; play the frame of so many bytes that is held, then go on; or stop
pub data Decided : Type 0 where
  reads : Run → Decided
  plays : ℕ → Run → Decided
  stops : Said → Decided

-- what the code's answer tells
abbrev pub told_stop : Stop → Said
told_stop (Refused r) = number (number_of r)
told_stop TooLarge = too_large
told_stop End = nothing

abbrev pub told_decision : Result Next Stop → Decided
told_decision (Ok (Read run)) = reads run
told_decision (Ok (Play frame)) = plays frame.size frame.run
told_decision (Err s) = stops (told_stop s)

abbrev pub unless_stopped : Option ℕ → Decided → Decided
unless_stopped none d = d
unless_stopped (some n) d = stops (number n)

-- ---- runs

-- before the first byte
abbrev pub begun : Run
begun = record { stage = FileHead; held = 0; want = 8; read = 0; fixed = false; first = None }

-- between two frames, after so many bytes: a file's mode, and its first frame, if there was one
abbrev pub between : ℕ → Bool → Maybe First → Run
between read fixed first = record { stage = FrameHead; held = 0; want = 8; read = read; fixed = fixed; first = first }

-- the same file, at another stage of the frame
abbrev pub within : Run → Stage → ℕ → ℕ → Run
within run stage held want = record { stage = stage; held = held; want = want; read = run.read; fixed = run.fixed; first = run.first }

-- how many of the bytes that came are within the most bytes of a file
abbrev pub counted : Run → ℕ → ℕ
counted run n = min n (most_bytes - run.read)

-- ---- the file header

unfoldable pub decided_start : List ℕ → Decided
decided_start f = unless_stopped (first_of (file_rules f)) (reads (between 8 (is_fixed (total_of f)) None))

-- ---- a frame's header, or the end

-- no frame is 2; then the tail's rules
abbrev pub decided_end : Run → ℕ → Decided
decided_end run left = cond (is_none run.first) (stops (number 2)) (stops (or_say (first_of (tail_rules left)) nothing))

unfoldable pub decided_head : Run → List ℕ → Decided
decided_head run f =
    cond (ltb (counted run (length f)) (length f)) (stops (number 9))
    (cond (ltb (length f) 8) (decided_end run (length f))
    (reads (within run FrameState 8 (state_end (header_at f 0).channels))))

-- ---- a frame's predictor state: refuse, too large, or read so many bytes

-- the first frame, which is this one where there was none
abbrev pub first_for : Run → FrameHeader → First
first_for run h = unwrap_or run.first (record { fixed = run.fixed; channels = h.channels; rate = h.rate })

-- a frame like the first, which is like itself
abbrev pub kind_for : Run → FrameHeader → Kind
kind_for run h = Like (first_for run h)

-- too large comes before cut
unfoldable pub decided_size : Run → FrameHeader → ℕ → Decided
decided_size run h left =
    cond (ltb most_held (length_of h)) (stops too_large)
    (unless_stopped (first_of (cut_rules (state_end h.channels) left))
    (reads (within run FrameBody (state_end h.channels) (length_of h))))

unfoldable pub decided_state : Run → List ℕ → Decided
decided_state run f =
    let h = header_at f 0 in
    let left = counted run (length f) in
    unless_stopped (first_of (frame_rules (kind_for run h) h 8 left)) (decided_size run h left)

-- ---- a frame's slices: cut, or played

unfoldable pub decided_body : Run → List ℕ → Decided
decided_body run f =
    let h = header_at f 0 in
    unless_stopped (first_of (frame_rules (kind_for run h) h (length_of h) (counted run (length f))))
    (plays (length_of h) (between (run.read + length_of h) run.fixed (Some (first_for run h))))

-- ---- at any stage

abbrev pub decided_at : Stage → Run → List ℕ → Decided
decided_at FileHead run f = decided_start f
decided_at FrameHead run f = decided_head run f
decided_at FrameState run f = decided_state run f
decided_at FrameBody run f = decided_body run f

unfoldable pub decided : Run → List ℕ → Decided
decided run f = decided_at run.stage run f

-- ---- what is said of a refusal, where the input has so many bytes

abbrev pub said_of : ℕ → ℕ → ℕ
said_of all n = cond (ltb most_bytes all) 9 n
