-- `qoa_decode::play`: the places keep their lengths.
use Rattle.std.proofs.Common.{◌≡◌, length}
use Rattle.qoa_decode.proofs.play.Given as goal

abbrev pub invariant-loop : goal.invariant-loop
invariant-loop l = (length l.block ≡ 4096) × (length l.bytes ≡ 8192)
