-- The encoder's calls on a block: the answer, the block and the output after them. Assumes nothing.
use Rattle.std.specs.Prelude.{ℕ, ◌≡◌, cond, List, [], ◌∷◌, ◌++◌, ltb, ℤ, length}
use Rattle.refusal.specs.Rules.{Rule, after, good, ◌gives◌}
use Rattle.refusal.specs.Lent.{laid_over}
use Rattle.encoder.specs.Calls.{Told, frame_memory, frame_told, head_memory, head_told, refuses, refuses_14, wrote}
use Rattle.encoder.specs.Encoder.{EncoderView, create_rules, new_view}
use Rattle.encoder.specs.Frame.{after_frame}
use Rattle.oneshot.specs.OneShot.{state_before, frames_of, shot_rules}
use Rattle.oneshot.specs.Shots.{shot_memory, shot_told}
use Rattle.block.specs.EncoderBlock.{encoder_bytes, encoder_in, encoder_size, is_encoder}
use Rattle.codes.specs.Codes.{coded, coded_encode}

-- 8 where the block is no state, else what the call tells of its state
abbrev pub told_by : List ℕ → Told → Told
told_by block told = cond (is_encoder block) told (refuses 8)

-- the block after a call: as it was on a refusal, else the next state's at its start
abbrev pub encoder_left : Told → EncoderView → List ℕ → List ℕ
encoder_left (wrote n) next block = laid_over block 0 (good (encoder_bytes next))
encoder_left (refuses n) next block = block
encoder_left (refuses_14 count channel) next block = block

-- the output: as it was where the block is no state, else what the call leaves
abbrev pub out_left : List ℕ → List ℕ → List ℕ → List ℕ
out_left block memory out = cond (is_encoder block) memory out

-- a call that only reads the block
pub record HeadLinked (block : List ℕ) (told : Told) (memory out : List ℕ) (r : ℤ) (out' : List ℕ) : Type 0 where
  pub answer : r ≡ coded_encode (told_by block told)
  pub bytes : out' ≡ out_left block memory out

-- a call after which the state goes on
pub record EncodeLinked (block : List ℕ) (told : Told) (next : EncoderView) (memory out : List ℕ) (r : ℤ) (block' out' : List ℕ) : Type 0 where
  pub answer : r ≡ coded_encode (told_by block told)
  pub state : block' ≡ encoder_left (told_by block told) next block
  pub bytes : out' ≡ out_left block memory out

-- the file header, a frame, a whole file
abbrev pub HeaderLinked : List ℕ → List ℕ → ℤ → List ℕ → Type 0
HeaderLinked block out r out' = HeadLinked block (head_told (encoder_in block) (length out)) (head_memory (encoder_in block) out) out r out'

abbrev pub FrameLinked : List ℕ → List ℤ → List ℕ → ℤ → List ℕ → List ℕ → Type 0
FrameLinked block samples out r block' out' =
    EncodeLinked block (frame_told (encoder_in block) samples (length out)) (after_frame (encoder_in block) samples) (frame_memory (encoder_in block) samples out) out r block' out'

abbrev pub FileLinked : List ℕ → List ℤ → List ℕ → ℤ → List ℕ → List ℕ → Type 0
FileLinked block samples out r block' out' =
    let v = encoder_in block in
    let rules = shot_rules v samples (length out) in
    EncodeLinked block (shot_told rules v samples) (state_before v samples (frames_of v)) (shot_memory rules v samples out) out r block' out'

-- creation: 11, 12, 13; 7 where the block is too short
abbrev pub new_rules : ℕ → ℕ → ℕ → ℕ → List Rule
new_rules c rate total room = create_rules c rate total ++ ((ltb room encoder_size gives 7) ∷ [])

pub record NewLinked (c rate total : ℕ) (block : List ℕ) (r : ℤ) (block' : List ℕ) : Type 0 where
  pub answer : r ≡ coded (after (new_rules c rate total (length block)) (good 0))
  pub state : block' ≡ laid_over block 0 (after (new_rules c rate total (length block)) (good (encoder_bytes (new_view c rate total))))
