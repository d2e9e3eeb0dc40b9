-- Laws of a decoder's facts. Assumes nothing.
use Prim.Native.Nat.{ℕ}
use mathlib.Core.Path.{◌≡◌, refl}
use mathlib.Core.Bool.{true, false}
use Rattle.refusal.specs.Rules.{first_of, good, refused}
use Rattle.format.specs.Facts.{facts_of}
use Rattle.state.specs.View.{View}
use Rattle.state.specs.States.{good_state}
use Rattle.state.specs.Facts.{facts_answer, facts_for}
use Rattle.state.specs.Opening.{opened_stream}

pub facts_refused : (v : View) (bytes : ℕ) → good_state v bytes ≡ false → facts_answer v bytes ≡ refused 8
unfolding facts_answer first_of
facts_refused v bytes e = rw e

pub facts_known : (v : View) (bytes : ℕ) → good_state v bytes ≡ true → facts_answer v bytes ≡ good (facts_for v.mode v.frame)
unfolding facts_answer first_of
facts_known v bytes e = rw e

-- a stream that was just opened: no total, no channels, no rate
pub stream_facts : facts_for opened_stream.mode opened_stream.frame ≡ facts_of 0 0 0
unfolding facts_for opened_stream
stream_facts = refl
