-- `search::encode_slice` meets its contract: the search of the samples that were gathered, and its word filled.
-- Assumes nothing.
use Prim.Native.Nat.{◌-◌, ◌<◌}
use mathlib.Core.Path.{◌≡◌}
use mathlib.Core.List.{List}
use native.Mathlib.Nat.{sub-zero}
use native.Mathlib.Omega.{arith}
use lib.IntN.{ℤ}
use lib.ListN.{length, take}
use Rattle.search.specs.Search.{encoded_slice, strided}
use Rattle.search.specs.Parts.{counted_of}
use Rattle.search.proofs.Fitting.{strided_length}
use Rattle.search.proofs.Slices.{chosen_word_lt}
use Rattle.search.proofs.encode_slice.Goals as goal
use Rattle.search.proofs.encode_slice.Goals.{After-choose-found, After-gather-taken}

-- The slice's samples.
abbrev samples_of : After-gather-taken → List ℤ
samples_of c = strided c.args.n c.args.samples.now c.args.start c.args.stride

many : (c : After-gather-taken) → length (samples_of c) ≡ c.args.n
many c = strided_length c.args.n c.args.samples.now c.args.start c.args.stride

taken_is : (c : After-gather-taken) → take (c.args.n - 0) c.gather-taken.result ≡ samples_of c
taken_is c = rw sub-zero c.gather-taken.ensures.0

counted_is : (c : After-choose-found) → take (c.args.n - 0) c.gather-taken.result ≡ strided c.args.n c.args.samples.now c.args.start c.args.stride → c.choose-found.result ≡ counted_of c.args.lms (strided c.args.n c.args.samples.now c.args.start c.args.stride)
counted_is c taken = rw taken at c.choose-found.ensures

pub fill-requires : goal.fill-requires
unfolding counted_of
fill-requires c =
    let h = (goal.at.fill-requires c).After-choose-found in
    let g = (goal.at.fill-requires c).After-gather-taken in
    let some : 0 < length (samples_of g) = omega (arith, many g, c.requires.n_nonzero.0) in
    (c.requires.n_nonzero.1, rw (counted_is h (taken_is g)) (rw (many g) at (chosen_word_lt c.args.lms (samples_of g) some)))

pub returns : goal.returns
unfolding counted_of encoded_slice
returns c =
    let h = (goal.at.returns c).After-choose-found in
    let g = (goal.at.returns c).After-gather-taken in
    rw (c.fill.ensures, counted_is h (taken_is g), many g)
