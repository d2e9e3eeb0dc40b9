-- `frame_samples::open_frame` meets its contract. Assumes nothing.
use mathlib.Core.Path.{◌≡◌, refl, ap, sym, ◌∙◌}
use native.Mathlib.Omega.{arith}
use borrow.Author.Rules.{rules}
use Rattle.word.proofs.Fields.{AreBytes}
use Rattle.state.specs.View.{view}
use Rattle.state.specs.Opening.{zero_state}
use Rattle.state.specs.declared.QoaDecoder.{QoaDecoder}
use Rattle.frames.specs.Frames.{entered}
use Rattle.frame_samples.proofs.Entering.{entered_there, enters, long_enough, stands_first, start}
use Rattle.frame_samples.proofs.open_frame.Goals as goal

pub enter_frame-requires : goal.enter_frame-requires
enter_frame-requires c = omega (arith, long_enough c.args.frame.now c.requires)

same_mode : (d : QoaDecoder) → d ≡ zero_state → start.mode ≡ d.mode
unfolding view
same_mode d e = ap (λ (z : QoaDecoder). z.mode) (sym e)

at_first : start.at ≡ 0
unfolding view zero_state
at_first = refl

pub returns : goal.returns
returns c =
    let f = c.args.frame.now in
    let bytes : AreBytes f = λ i. search rules in
    let done = c.enter_frame.ensures start (same_mode _ c.zero_state.ensures) at_first in
    let view_is : view c.enter_frame.result.state ≡ entered f start = (rw (enters f c.requires) at done.left) ∙ entered_there f c.requires in
    (rw view_is (stands_first f c.requires bytes), refl)
