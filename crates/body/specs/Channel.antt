-- The slices of one channel, from its own samples xs and its predictor s alone. Assumes nothing.
use Rattle.std.specs.Prelude.{ℕ, zero, suc, ◌*◌, ◌/◌, ◌%◌, List, ℤ, take, drop}
use Rattle.format.specs.Format.{slice_len}
use Rattle.lms.specs.Predictor.{at}
use Rattle.lms.specs.declared.QoaLms.{QoaLms}
use Rattle.search.specs.Search.{encoded_slice}
use Rattle.search.specs.Reconstruction.{reconstructed, state_tried}

-- the samples of slice g: twenty, or fewer at the end
unfoldable pub slice_part : List ℤ → ℕ → List ℤ
slice_part xs g = take slice_len (drop (slice_len * g) xs)

-- the predictor before slice g: as the winning run of the slice before left it
unfoldable pub lms_before : QoaLms → List ℤ → ℕ → QoaLms
lms_before s xs zero = s
lms_before s xs (suc g) = state_tried (lms_before s xs g) (slice_part xs g)

-- the word of slice g
unfoldable pub slice_word : QoaLms → List ℤ → ℕ → ℕ
slice_word s xs g = (encoded_slice (lms_before s xs g) (slice_part xs g)).word

-- the writer's reconstruction of sample k
unfoldable pub sum_at : QoaLms → List ℤ → ℕ → ℤ
sum_at s xs k = at (reconstructed (lms_before s xs (k / slice_len)) (slice_part xs (k / slice_len))) (k % slice_len)
