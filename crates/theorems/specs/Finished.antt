-- The files that the writer finishes, in FORMAT.md's words: their bytes, and the writer's reconstruction of them, which is of samples and starting
-- state alone. Assumes nothing.
use Rattle.std.specs.Prelude.{ℕ, ◌≡◌, List, [], ◌∷◌, ◌++◌, ℤ}
use Rattle.encoder.specs.Encoder.{EncoderView, new_view}
use Rattle.encoder.specs.Frame.{after_frame, frame_bytes, frame_sums}
use Rattle.oneshot.specs.OneShot.{file_bytes, frames_of, shot_rules, sums_before}
use Rattle.encoder.specs.Head.{head_bytes}
use Rattle.oneshot.specs.Shots.{all_rules, shot_told}
use Rattle.encoder.specs.Calls.{frame_told, wrote}

-- ---- frames, given by their samples, each from the state that the one before handed back

-- the call for a frame, in so much room, tells how many bytes it wrote
pub record Accepted (v : EncoderView) (samples : List ℤ) : Type 0 where
  pub room : ℕ
  pub count : ℕ
  pub told : frame_told v samples room ≡ wrote count

abbrev pub AllAccepted : EncoderView → List (List ℤ) → Type 0
AllAccepted v [] = Unit {0}
AllAccepted v (xs ∷ more) = Accepted v xs × AllAccepted (after_frame v xs) more

unfoldable pub frames_bytes : EncoderView → List (List ℤ) → List ℕ
frames_bytes v [] = []
frames_bytes v (xs ∷ more) = frame_bytes v xs ++ frames_bytes (after_frame v xs) more

-- the writer's reconstruction of them
unfoldable pub frames_sums : EncoderView → List (List ℤ) → List ℤ
frames_sums v [] = []
frames_sums v (xs ∷ more) = frame_sums v xs ++ frames_sums (after_frame v xs) more

-- all their samples, one frame's after another's
unfoldable pub all_given : List (List ℤ) → List ℤ
all_given [] = []
all_given (xs ∷ more) = xs ++ all_given more

-- ---- a finished file

-- an accepted one-shot result, of an encoder or from the start;
-- or a file header, of any total, and one or more accepted frames
pub data Finished : Type 0 where
  one_shot : (v : EncoderView) (samples : List ℤ) (room count : ℕ) → shot_told (shot_rules v samples room) v samples ≡ wrote count → Finished
  from_start : (c rate total : ℕ) (samples : List ℤ) (room count : ℕ) → shot_told (all_rules c rate total samples room) (new_view c rate total) samples ≡ wrote count → Finished
  in_pieces : (total : ℕ) (v : EncoderView) (first : List ℤ) (others : List (List ℤ)) → AllAccepted v (first ∷ others) → Finished

-- its bytes
unfoldable pub bytes_in : Finished → List ℕ
bytes_in (one_shot v samples room count told) = file_bytes v samples
bytes_in (from_start c rate total samples room count told) = file_bytes (new_view c rate total) samples
bytes_in (in_pieces total v first others all) = head_bytes total ++ frames_bytes v (first ∷ others)

-- the state that its first frame starts from
unfoldable pub start_in : Finished → EncoderView
start_in (one_shot v samples room count told) = v
start_in (from_start c rate total samples room count told) = new_view c rate total
start_in (in_pieces total v first others all) = v

-- the samples that were given
unfoldable pub given_in : Finished → List ℤ
given_in (one_shot v samples room count told) = samples
given_in (from_start c rate total samples room count told) = samples
given_in (in_pieces total v first others all) = all_given (first ∷ others)

-- the writer's reconstruction
unfoldable pub reconstruction_in : Finished → List ℤ
reconstruction_in (one_shot v samples room count told) = sums_before v samples (frames_of v)
reconstruction_in (from_start c rate total samples room count told) = sums_before (new_view c rate total) samples (frames_of (new_view c rate total))
reconstruction_in (in_pieces total v first others all) = frames_sums v (first ∷ others)
