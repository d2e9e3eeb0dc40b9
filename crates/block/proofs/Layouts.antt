-- The parts of a block, laid over it field by field, and their lengths. Assumes nothing.
use Prim.Native.Nat.{ℕ, ◌+◌, ◌*◌, ◌/◌, ◌%◌, ◌^◌, ◌≤◌}
use mathlib.Core.Bool.{Bool, true, false, cond}
use mir.Val.{bool_byte}
use mathlib.Core.Path.{◌≡◌, refl, ap}
use mathlib.Core.List.{List, [], ◌∷◌, ◌++◌, append_assoc}
use native.Mathlib.Omega.{arith}
use lib.IntN.{ℤ}
use lib.ListN.{length, length-append}
use Rattle.wrap.specs.Wrap.{low16, low32}
use Rattle.word.specs.Bytes.{byte_of, bytes_of}
use Rattle.word.specs.Table.{table}
use Rattle.word.proofs.BytesLaws.{length_bytes}
use Rattle.lms.specs.Predictor.{at}
use Rattle.lms.specs.declared.QoaLms.{QoaLms}
use Rattle.format.specs.Format.{max_channels, pending_len}
use Rattle.format.specs.Predictor.{lms_of}
use Rattle.state.specs.View.{View}
use Rattle.state.specs.declared.FrameFacts.{FrameFacts}
use Rattle.state.specs.declared.ProcessingMode.{ProcessingMode}
use Rattle.state.specs.declared.ProcessingMode.TheVariants.{FixedSamples, Streaming}
use Rattle.refusal.specs.Rules.{good}
use Rattle.refusal.specs.Lent.{laid_over}
use Rattle.encoder.specs.Encoder as E
use Rattle.body.specs.Laid.{laid}
use Rattle.body.proofs.Laids.{length_laid}
use Rattle.refusal.proofs.Lents.{over_put, over_then, then_put}
use Rattle.block.specs.Predictors.{four_bytes, predictor_bytes, predictors_bytes}
use Rattle.block.specs.DecoderBlock.{decoder_bytes, decoder_size, fixed_bytes, facts_bytes, mode_bytes, pending_at, pending_bytes, rest_bytes}
use Rattle.block.specs.EncoderBlock.{encoder_bytes, encoder_size}
use Rattle.word.specs.Parts.{put}

-- ---- predictors

pub length_four : (xs : List ℤ) → length (four_bytes xs) ≡ 16
unfolding four_bytes
length_four xs = length_laid 4 4 (λ i. bytes_of 4 (low32 (at xs i))) (λ i. length_bytes 4 (low32 (at xs i)))

pub length_predictor : (lms : QoaLms) → length (predictor_bytes lms) ≡ 32
unfolding predictor_bytes
length_predictor lms = omega (arith, length-append (four_bytes lms.history) (four_bytes lms.weights), length_four lms.history, length_four lms.weights)

pub four_over : (out : List ℕ) (p : ℕ) (xs : List ℤ) → p + 16 ≤ length out
    → put 4 (put 4 (put 4 (put 4 out p (low32 (at xs 0))) (p + 4) (low32 (at xs 1))) (p + 8) (low32 (at xs 2))) (p + 12) (low32 (at xs 3)) ≡ laid_over out p (good (four_bytes xs))
unfolding four_bytes laid
four_over out p xs room =
    let f : ℕ → List ℕ = λ i. bytes_of 4 (low32 (at xs i)) in
    let long : (n : ℕ) → length (laid n f) ≡ n * 4 = λ n. length_laid 4 n f (λ i. length_bytes 4 (low32 (at xs i))) in
    rw (
      over_put out p 4 (low32 (at xs 0)) (omega arith),
      then_put out p (laid 1 f) (p + 4) (omega (arith, long 1)) 4 (low32 (at xs 1)) (omega arith),
      then_put out p (laid 2 f) (p + 8) (omega (arith, long 2)) 4 (low32 (at xs 2)) (omega arith),
      then_put out p (laid 3 f) (p + 12) (omega (arith, long 3)) 4 (low32 (at xs 3)) (omega arith),
    )

-- ---- the mode

pub fixed_over : (out : List ℕ) (m total c rate : ℕ) → 10 ≤ length out
    → put 4 (put 1 (put 4 (put 1 out 0 m) 1 total) 5 c) 6 rate ≡ laid_over out 0 (good (fixed_bytes m total c rate))
fixed_over out m total c rate room =
    let a : List ℕ = bytes_of 1 m in
    let la : length a ≡ 1 = length_bytes 1 m in
    let b : List ℕ = a ++ bytes_of 4 total in
    let d : List ℕ = b ++ bytes_of 1 c in
    let lb : length b ≡ 5 = omega (arith, length-append a (bytes_of 4 total), length_bytes 4 total) in
    let ld : length d ≡ 6 = omega (arith, length-append b (bytes_of 1 c), length_bytes 1 c, lb) in
    rw (
      over_put out 0 1 m (omega arith),
      then_put out 0 a 1 (omega arith) 4 total (omega arith),
      then_put out 0 b 5 (omega arith) 1 c (omega arith),
      then_put out 0 d 6 (omega arith) 4 rate (omega arith),
    )
    (ap (λ (l : List ℕ). laid_over out 0 (good l)) (simp append_assoc))

pub length_fixed : (m total c rate : ℕ) → length (fixed_bytes m total c rate) ≡ 10
length_fixed m total c rate =
    omega (arith, length-append (bytes_of 1 m) (bytes_of 4 total ++ (bytes_of 1 c ++ bytes_of 4 rate)), length-append (bytes_of 4 total) (bytes_of 1 c ++ bytes_of 4 rate), length-append (bytes_of 1 c) (bytes_of 4 rate), length_bytes 1 m, length_bytes 1 c, length_bytes 4 total, length_bytes 4 rate)

pub length_mode : (m : ProcessingMode) → length (mode_bytes m) ≡ 10
unfolding mode_bytes
length_mode Streaming = length_fixed 0 0 0 0
length_mode (FixedSamples total c rate) = length_fixed 1 total c rate

-- ---- the frame

pub frame_over : (out : List ℕ) (f : FrameFacts) → 25 ≤ length out
    → put 2 (put 4 (put 1 out 18 f.channels) 19 f.rate) 23 f.samples ≡ laid_over out 18 (good (facts_bytes f))
unfolding facts_bytes
frame_over out f room =
    let a : List ℕ = bytes_of 1 f.channels in
    let la : length a ≡ 1 = length_bytes 1 f.channels in
    let b : List ℕ = a ++ bytes_of 4 f.rate in
    let lb : length b ≡ 5 = omega (arith, length-append a (bytes_of 4 f.rate), length_bytes 4 f.rate) in
    rw (
      over_put out 18 1 f.channels (omega arith),
      then_put out 18 a 19 (omega arith) 4 f.rate (omega arith),
      then_put out 18 b 23 (omega arith) 2 f.samples (omega arith),
    )
    (ap (λ (l : List ℕ). laid_over out 18 (good l)) (simp append_assoc))

pub length_frame : (f : FrameFacts) → length (facts_bytes f) ≡ 7
unfolding facts_bytes
length_frame f =
    omega (arith, length_bytes 1 f.channels, length-append (bytes_of 1 f.channels) (bytes_of 4 f.rate ++ bytes_of 2 f.samples), length-append (bytes_of 4 f.rate) (bytes_of 2 f.samples), length_bytes 4 f.rate, length_bytes 2 f.samples)

-- ---- what remains of it

pub rest_over : (out : List ℕ) (remaining next end : ℕ) (given : Bool) → 32 ≤ length out
    → put 1 (put 2 (put 2 (put 2 out 25 remaining) 27 next) 29 end) 31 (cond given 1 0) ≡ laid_over out 25 (good (rest_bytes remaining next end given))
unfolding rest_bytes
rest_over out remaining next end given room =
    let a : List ℕ = bytes_of 2 remaining in
    let b : List ℕ = a ++ bytes_of 2 next in
    let d : List ℕ = b ++ bytes_of 2 end in
    let la : length a ≡ 2 = length_bytes 2 remaining in
    let lb : length b ≡ 4 = omega (arith, length-append a (bytes_of 2 next), length_bytes 2 next) in
    let ld : length d ≡ 6 = omega (arith, length-append b (bytes_of 2 end), length_bytes 2 end) in
    rw (
      over_put out 25 2 remaining (omega arith),
      then_put out 25 a 27 (omega arith) 2 next (omega arith),
      then_put out 25 b 29 (omega arith) 2 end (omega arith),
      then_put out 25 d 31 (omega arith) 1 (cond given 1 0) (omega arith),
    )
    (ap (λ (l : List ℕ). laid_over out 25 (good l)) (simp append_assoc))

-- a flag's byte
pub flag_byte : (given : Bool) → bool_byte given ≡ cond given 1 0
flag_byte true = refl
flag_byte false = refl

-- of a number only the low 16 bits count
low_two : (n : ℕ) → bytes_of 2 (n % 2 ^ 16) ≡ bytes_of 2 n
unfolding bytes_of byte_of table
low_two n =
    let high : n % 2 ^ 16 / 2 ^ 8 % 256 ≡ n / 2 ^ 8 % 256 = omega arith in
    let low : n % 2 ^ 16 / 2 ^ 0 % 256 ≡ n / 2 ^ 0 % 256 = omega arith in
    λ i. high i ∷ low i ∷ []

pub rest_low : (remaining next end : ℕ) (given : Bool) → rest_bytes remaining (next % 2 ^ 16) (end % 2 ^ 16) given ≡ rest_bytes remaining next end given
unfolding rest_bytes
rest_low remaining next end given = rw (low_two next, low_two end)

pub length_rest : (remaining next end : ℕ) (given : Bool) → length (rest_bytes remaining next end given) ≡ 7
unfolding rest_bytes
length_rest remaining next end given =
    omega (arith, length-append (bytes_of 2 remaining) (bytes_of 2 next ++ (bytes_of 2 end ++ bytes_of 1 (cond given 1 0))), length-append (bytes_of 2 next) (bytes_of 2 end ++ bytes_of 1 (cond given 1 0)), length-append (bytes_of 2 end) (bytes_of 1 (cond given 1 0)), length_bytes 2 remaining, length_bytes 2 next, length_bytes 2 end, length_bytes 1 (cond given 1 0))

-- ---- predictors of all channels, and the pending samples

pub length_predictors : (states : List QoaLms) → length (predictors_bytes states) ≡ 32 * max_channels
unfolding predictors_bytes
length_predictors states = length_laid 32 max_channels (λ j. predictor_bytes (lms_of states j)) (λ j. length_predictor (lms_of states j))

pub length_pending : (v : View) → length (pending_bytes v) ≡ 40 * max_channels
unfolding pending_bytes
length_pending v = length_laid 2 pending_len (λ i. bytes_of 2 (low16 (pending_at v i))) (λ i. length_bytes 2 (low16 (pending_at v i)))

-- ---- all of it

pub decoder_over : (out : List ℕ) (v : View) → decoder_size ≤ length out
    → laid_over (laid_over (laid_over (laid_over (put 8 (laid_over out 0 (good (mode_bytes v.mode))) 10 v.at) 18 (good (facts_bytes v.frame))) 25 (good (rest_bytes v.remaining v.next v.end v.given))) 32 (good (predictors_bytes v.lms))) (32 + 32 * max_channels) (good (pending_bytes v))
    ≡ laid_over out 0 (good (decoder_bytes v))
unfolding decoder_bytes
decoder_over out v room =
    let a : List ℕ = mode_bytes v.mode in
    let b : List ℕ = a ++ bytes_of 8 v.at in
    let c : List ℕ = b ++ facts_bytes v.frame in
    let rest : List ℕ = rest_bytes v.remaining v.next v.end v.given in
    let d : List ℕ = c ++ rest in
    let e : List ℕ = d ++ predictors_bytes v.lms in
    let la : length a ≡ 10 = length_mode v.mode in
    let lb : length b ≡ 18 = omega (arith, length-append a (bytes_of 8 v.at), length_bytes 8 v.at) in
    let lc : length c ≡ 25 = omega (arith, length-append b (facts_bytes v.frame), length_frame v.frame) in
    let ld : length d ≡ 32 = omega (arith, length-append c rest, length_rest v.remaining v.next v.end v.given) in
    let le : length e ≡ 32 + 32 * max_channels = omega (arith, length-append d (predictors_bytes v.lms), length_predictors v.lms) in
    rw (
      then_put out 0 a 10 (omega arith) 8 v.at (omega arith),
      over_then out 0 18 b (facts_bytes v.frame) (omega arith) (omega arith),
      over_then out 0 25 c rest (omega arith) (omega arith),
      over_then out 0 32 d (predictors_bytes v.lms) (omega arith) (omega arith),
      over_then out 0 (32 + 32 * max_channels) e (pending_bytes v) (omega arith) (omega arith),
    )
    (ap (λ (l : List ℕ). laid_over out 0 (good l)) (simp append_assoc))

regroup : (a b c d : List ℕ) → ((a ++ b) ++ c) ++ d ≡ a ++ (b ++ (c ++ d))
regroup a b c d = simp append_assoc

pub encoder_over : (out : List ℕ) (v : E.EncoderView) → encoder_size ≤ length out
    → laid_over (put 4 (put 4 (put 1 out 0 v.channels) 1 v.rate) 5 v.total) 9 (good (predictors_bytes v.lms)) ≡ laid_over out 0 (good (encoder_bytes v))
unfolding encoder_bytes
encoder_over out v room =
    let a : List ℕ = bytes_of 1 v.channels in
    let la : length a ≡ 1 = length_bytes 1 v.channels in
    let b : List ℕ = a ++ bytes_of 4 v.rate in
    let c : List ℕ = b ++ bytes_of 4 v.total in
    let lb : length b ≡ 5 = omega (arith, length-append a (bytes_of 4 v.rate), length_bytes 4 v.rate) in
    let lc : length c ≡ 9 = omega (arith, length-append b (bytes_of 4 v.total), length_bytes 4 v.total) in
    rw (
      over_put out 0 1 v.channels (omega arith),
      then_put out 0 a 1 (omega arith) 4 v.rate (omega arith),
      then_put out 0 b 5 (omega arith) 4 v.total (omega arith),
      over_then out 0 9 c (predictors_bytes v.lms) (omega arith) (omega arith),
    )
    (ap (λ (l : List ℕ). laid_over out 0 (good l)) (regroup a (bytes_of 4 v.rate) (bytes_of 4 v.total) (predictors_bytes v.lms)))

-- as long as a block is
pub length_decoder : (v : View) → length (decoder_bytes v) ≡ decoder_size
unfolding decoder_bytes
length_decoder v =
    let rest : List ℕ = rest_bytes v.remaining v.next v.end v.given in
    let tail : List ℕ = predictors_bytes v.lms ++ pending_bytes v in
    omega (
      arith,
      length-append (mode_bytes v.mode) (bytes_of 8 v.at ++ (facts_bytes v.frame ++ (rest ++ tail))),
      length-append (bytes_of 8 v.at) (facts_bytes v.frame ++ (rest ++ tail)),
      length-append (facts_bytes v.frame) (rest ++ tail),
      length-append rest tail,
      length-append (predictors_bytes v.lms) (pending_bytes v),
      length_mode v.mode,
      length_bytes 8 v.at,
      length_frame v.frame,
      length_rest v.remaining v.next v.end v.given,
      length_predictors v.lms,
      length_pending v,
    )

pub length_encoder : (v : E.EncoderView) → length (encoder_bytes v) ≡ encoder_size
unfolding encoder_bytes
length_encoder v =
    omega (
      arith,
      length_bytes 1 v.channels,
      length-append (bytes_of 1 v.channels) (bytes_of 4 v.rate ++ (bytes_of 4 v.total ++ predictors_bytes v.lms)),
      length-append (bytes_of 4 v.rate) (bytes_of 4 v.total ++ predictors_bytes v.lms),
      length-append (bytes_of 4 v.total) (predictors_bytes v.lms),
      length_bytes 4 v.rate,
      length_bytes 4 v.total,
      length_predictors v.lms,
    )
