-- `ahead::gain` meets its contract. Assumes nothing.
use Rattle.std.proofs.Common.{◌≡◌, ap, ◌∙◌, arith, to_z-of_z}
use Rattle.std.proofs.lemmas.Int.{ints}
use Rattle.ahead.specs.Parts.{gained, side_of}
use Rattle.ahead.proofs.gain.Goals as goal

pub returns : goal.returns
unfolding gained
returns c =
    let weight = c.args.weight in
    let gains = c.args.gains.now in
    let side : c.side.result ≡ side_of c.args.history = c.side.ensures ∙ ap side_of (to_z-of_z c.ranges.history) in
    let small = c.requires.1 (side_of c.args.history) in
    rw side (omega (arith, ints))
