-- The program's run: the buffer is filled as far as the run wants, what comes next is decided, and so on until it stops. Assumes nothing.
use Rattle.std.specs.Prelude.{ℕ, zero, suc, ◌+◌, ◌-◌, List, [], ◌++◌, length, take, drop}
use Rattle.file.specs.Frame.{frame_samples}
use Rattle.play.specs.Played.{Played, Said, before, nothing, number, only, too_large}
use Rattle.play.specs.Decisions.{Decided, begun, decided, plays, reads, said_of, stops}
use Rattle.play.specs.declared.Run.{Run}

-- what the buffer holds after a fill from the input b, where it held f before, and what is left of the input
abbrev pub filled : Run → List ℕ → List ℕ → List ℕ
filled run f b = f ++ take (run.want - run.held) b

abbrev pub unread : Run → List ℕ → List ℕ
unread run b = drop (run.want - run.held) b

-- a number is said when the input, of so many bytes, was read to its end
abbrev pub said_after : ℕ → Said → Said
said_after all nothing = nothing
said_after all (number n) = number (said_of all n)
said_after all too_large = too_large

-- what a decision makes of the bytes held, where `on` goes on with a run and the bytes that it keeps
abbrev pub carried_out : (Run → List ℕ → Played) → List ℕ → ℕ → Decided → Played
carried_out on got all (reads run) = on run (take run.held got)
carried_out on got all (plays size run) = before (frame_samples (take size got)) (on run (take run.held got))
carried_out on got all (stops s) = only (said_after all s)

-- `fuel` bounds the decisions
unfoldable pub ran_by : ℕ → Run → List ℕ → List ℕ → Played
ran_by zero run f b = only nothing
ran_by (suc fuel) run f b =
    let got = filled run f b in
    carried_out (λ next kept. ran_by fuel next kept (unread run b)) got (run.read + length got + length (unread run b)) (decided run got)

-- three decisions for each frame, which has at least 8 bytes, and two more
unfoldable pub ran : List ℕ → Played
ran b = ran_by (length b + 1) begun [] b
