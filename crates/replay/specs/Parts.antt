-- The lists of a request, each within the request and within its room. Assumes nothing.
use Rattle.std.specs.Prelude.{ℕ, ◌+◌, ◌*◌, ◌≤◌, ◌≡◌}
use Rattle.lines.specs.declared.parts.Part.{Part}
use Rattle.replay.specs.declared.Places.{Places}

-- elements of so many bytes, in a request of so many bytes, with room for so many elements
pub record Fits (width bytes room : ℕ) (p : Part) : Type 0 where
  pub end : p.next ≡ p.from + p.count * width
  pub within : p.next ≤ bytes
  pub count : p.count ≤ room

-- all the lists of a request
pub record Laid (bytes : ℕ) (p : Places) : Type 0 where
  pub numbers : Fits 8 bytes 3 p.numbers
  pub bytes_read : Fits 1 bytes 65536 p.bytes
  pub state : Fits 1 bytes 4096 p.state
  pub out : Fits 1 bytes 65536 p.out
  pub samples : Fits 2 bytes 32768 p.samples
  pub facts : Fits 4 bytes 16 p.facts
