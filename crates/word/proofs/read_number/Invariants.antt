-- `word::read_number` meets its contract. The loop's invariant: `word` is the number of the bytes passed, and has no more than their bits.
-- Assumes nothing.
use Rattle.std.proofs.Common.{◌≡◌, ◌*◌, ◌^◌, ◌<◌}
use Rattle.word.specs.Bytes.{be}
use Rattle.word.proofs.read_number.Given as goal

abbrev pub invariant-loop-byte : goal.invariant-loop-byte
invariant-loop-byte l = (l.word ≡ be l.byte-index l.bytes l.at) × (l.word < 2 ^ (8 * l.byte-index))
