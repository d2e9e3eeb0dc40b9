-- There and back: what is written of a view is read as that view, where its numbers have the sizes of their fields. Assumes nothing.
use Prim.Native.Nat.{ℕ, ◌+◌, ◌-◌, ◌*◌, ◌≤◌, ◌<◌, ◌^◌}
use mathlib.Core.Bool.{Bool, true, false, cond}
use mathlib.Core.List.{List, [], ◌∷◌, ◌++◌, append_assoc}
use mathlib.Core.Path.{◌≡◌, refl, sym, subst, ap, ap₂, ◌∙◌}
use borrow.Author.Tests.{le-ltb}
use native.Mathlib.Nat.{add_assoc, add-zero, zero-add}
use native.Mathlib.Omega.{arith}
use lib.Dec.{eqb, lit<, lit≤}
use lib.IntN.{ℤ, pos}
use lib.ListN.{length}
use mir.Syntax.{w16, w32}
use mir.Val.{SFits, to_z}
use Rattle.wrap.specs.Wrap.{low16, low32}
use Rattle.wrap.proofs.Modulo.{modulo_lt}
use Rattle.wrap.proofs.Patterns.{read_low}
use Rattle.word.specs.Bytes.{be, be16, be32, be64, bytes_of}
use Rattle.word.specs.Table.{table}
use Rattle.word.proofs.BytesLaws.{be_append, be_of, be_past, byte_at, length_bytes}
use Rattle.word.proofs.Tables.{table_ext, table_of}
use Rattle.lms.specs.Predictor.{at}
use Rattle.lms.specs.declared.QoaLms.{QoaLms}
use Rattle.format.specs.Format.{max_channels, pending_len}
use Rattle.format.specs.Predictor.{lms_of, no_lms}
use Rattle.state.specs.View.{View}
use Rattle.state.specs.declared.ProcessingMode.{ProcessingMode}
use Rattle.state.specs.declared.ProcessingMode.TheVariants.{FixedSamples, Streaming}
use Rattle.encoder.specs.Encoder as E
use Rattle.block.specs.DecoderBlock.{byte_in, decoder_bytes, decoder_in, facts_bytes, frame_in, mode_bytes, mode_in, pending_at, pending_bytes, rest_bytes, sample_in}
use Rattle.block.specs.EncoderBlock.{encoder_bytes, encoder_in}
use Rattle.block.specs.Predictors.{four_bytes, four_in, predictor_bytes, predictor_in, predictors_bytes, predictors_in}
use Rattle.block.proofs.Fields.{Field, be_one, here, inside, joined, read_field, read_rest, there, widths}
use Rattle.block.proofs.Layouts.{length_four, length_predictor, length_predictors}

-- ---- predictors

-- four numbers of 32 bits each
pub record Four (xs : List ℤ) : Type 0 where
  pub four : length xs ≡ 4
  pub fit : (i : ℕ) → SFits w32 (at xs i)

pub record Predictor (lms : QoaLms) : Type 0 where
  pub history_four : Four lms.history
  pub weights_four : Four lms.weights

low_small : (z : ℤ) → low32 z < 256 ^ 4
low_small z = modulo_lt 0xffff_ffff z

number_back : (n w : ℕ) → w < 256 ^ n → be n (bytes_of n w) 0 ≡ w
number_back n w small = be_of n w (bytes_of n w) 0 (λ i h. rw zero-add (byte_at n w i h)) small

-- a number among the four
four_at_lem : (xs : List ℤ) (i : ℕ) → i < 4 → be 4 (four_bytes xs) (4 * i) ≡ low32 (at xs i)
unfolding four_bytes
four_at_lem xs i l =
    ap (be 4 (four_bytes xs)) (sym (add-zero (4 * i)))
    ∙ inside 4 (λ k. bytes_of 4 (low32 (at xs k))) (λ k. length_bytes 4 (low32 (at xs k))) 4 0 (lit≤ tt) 4 i l
    ∙ number_back 4 (low32 (at xs i)) (low_small (at xs i))

four_back : (xs : List ℤ) (block : List ℕ) (p : ℕ) → Four xs → ((i : ℕ) → i < 4 → be 4 block (p + 4 * i) ≡ low32 (at xs i)) → four_in block p ≡ xs
unfolding four_in
four_back xs block p f read =
    table_ext 4 (λ i. to_z w32 (be32 block (p + 4 * i))) (λ i. at xs i) (λ i l. ap (to_z w32) (read i l) ∙ read_low w32 0xffff_ffff refl (lit≤ tt) (f.fit i))
    ∙ table_of 4 xs (pos 0) f.four

predictor_back : (lms : QoaLms) (block : List ℕ) (p : ℕ) → Predictor lms → ((q : ℕ) → q + 4 ≤ 32 → be 4 block (p + q) ≡ be 4 (predictor_bytes lms) q) → predictor_in block p ≡ lms
unfolding predictor_in predictor_bytes
predictor_back lms block p f read =
    let h = four_bytes lms.history in
    let w = four_bytes lms.weights in
    let long = length_four lms.history in
    let histories = four_back lms.history block p f.history_four (λ i l. read (4 * i) (omega arith) ∙ be_append 4 h w (4 * i) (omega arith) ∙ four_at_lem lms.history i l) in
    let weights = four_back lms.weights block (p + 16) f.weights_four (λ i l.
    ap (be 4 block) (add_assoc p 16 (4 * i)) ∙ read (16 + 4 * i) (omega arith)
    ∙ ap (λ (n : ℕ). be 4 (h ++ w) (n + 4 * i)) (sym long) ∙ be_past 4 h w (4 * i) ∙ four_at_lem lms.weights i l) in
    λ i. record { history = histories i; weights = weights i }

predictors_back : (states : List QoaLms) (block : List ℕ) (p c : ℕ) → length states ≡ c → c ≤ max_channels → ((j : ℕ) → j < c → Predictor (lms_of states j))
    → ((q : ℕ) → q + 4 ≤ 32 * max_channels → be 4 block (p + q) ≡ be 4 (predictors_bytes states) q) → predictors_in block p c ≡ states
unfolding predictors_in predictors_bytes
predictors_back states block p c long few each read =
    table_ext c (λ j. predictor_in block (p + 32 * j)) (lms_of states)
    (λ j l. predictor_back (lms_of states j) block (p + 32 * j) (each j l) (λ q within.
    ap (be 4 block) (add_assoc p (32 * j) q) ∙ read (32 * j + q) (omega arith)
    ∙ inside 32 (λ k. predictor_bytes (lms_of states k)) (λ k. length_predictor (lms_of states k)) 4 q within max_channels j (omega arith)))
    ∙ table_of c states no_lms long

-- ---- an encoder's state

pub record EncoderHolds (v : E.EncoderView) : Type 0 where
  pub few_channels : v.channels ≤ max_channels
  pub rate_fits : v.rate < 2 ^ 32
  pub total_fits : v.total < 2 ^ 32
  pub each_channel : length v.lms ≡ v.channels
  pub predictors : (j : ℕ) → j < v.channels → Predictor (lms_of v.lms j)

encoder_fields : E.EncoderView → List Field
encoder_fields v = record { width = 1; value = v.channels } ∷ record { width = 4; value = v.rate } ∷ record { width = 4; value = v.total } ∷ []

encoder_joined : (v : E.EncoderView) → encoder_bytes v ≡ joined (encoder_fields v) (predictors_bytes v.lms)
unfolding encoder_bytes joined encoder_fields
encoder_joined v = refl

pub encoder_back : (v : E.EncoderView) → EncoderHolds v → encoder_in (encoder_bytes v) ≡ v
unfolding encoder_in encoder_fields widths
encoder_back v holds =
    let rest = predictors_bytes v.lms in
    let block = joined (encoder_fields v) rest in
    let channels : byte_in block 0 ≡ v.channels = sym (be_one block 0) ∙ read_field rest here (omega (arith, holds.few_channels)) in
    let rate : be32 block 1 ≡ v.rate = read_field rest (there here) holds.rate_fits in
    let total : be32 block 5 ≡ v.total = read_field rest (there (there here)) holds.total_fits in
    let lms : predictors_in block 9 (byte_in block 0) ≡ v.lms =
    ap (predictors_in block 9) channels ∙ predictors_back v.lms block 9 v.channels holds.each_channel holds.few_channels holds.predictors (λ q within. read_rest (encoder_fields v) rest 4 q) in
    ap encoder_in (encoder_joined v) ∙ (λ i. record { channels = channels i; rate = rate i; total = total i; lms = lms i })

-- ---- a decoder's state

abbrev pub ModeHolds : ProcessingMode → Type 0
ModeHolds Streaming = Unit {0}
ModeHolds (FixedSamples total c rate) = (total < 2 ^ 32) × (c < 2 ^ 8) × (rate < 2 ^ 32)

pub record DecoderHolds (v : View) : Type 0 where
  pub mode_holds : ModeHolds v.mode
  pub place_fits : v.at < 2 ^ 64
  pub few_channels : v.frame.channels ≤ max_channels
  pub rate_fits : v.frame.rate < 2 ^ 32
  pub samples_fit : v.frame.samples < 2 ^ 16
  pub remaining_fits : v.remaining < 2 ^ 16
  pub next_fits : v.next < 2 ^ 16
  pub few_pending : v.end ≤ pending_len
  pub each_pending : length v.pending ≡ v.end - v.next
  pub pending_fit : (i : ℕ) → SFits w16 (at v.pending i)
  pub each_channel : length v.lms ≡ v.frame.channels
  pub predictors : (j : ℕ) → j < v.frame.channels → Predictor (lms_of v.lms j)

-- the fields behind the mode's
later_fields : View → List Field
later_fields v =
    record { width = 8; value = v.at }
    ∷ record { width = 1; value = v.frame.channels }
    ∷ record { width = 4; value = v.frame.rate }
    ∷ record { width = 2; value = v.frame.samples }
    ∷ record { width = 2; value = v.remaining }
    ∷ record { width = 2; value = v.next }
    ∷ record { width = 2; value = v.end }
    ∷ record { width = 1; value = cond v.given 1 0 }
    ∷ []

decoder_fields : ℕ → ℕ → ℕ → ℕ → View → List Field
decoder_fields m total c rate v = record { width = 1; value = m } ∷ record { width = 4; value = total } ∷ record { width = 1; value = c } ∷ record { width = 4; value = rate } ∷ later_fields v

mode_fields : ProcessingMode → View → List Field
mode_fields Streaming v = decoder_fields 0 0 0 0 v
mode_fields (FixedSamples total c rate) v = decoder_fields 1 total c rate v

abbrev rest_of : View → List ℕ
rest_of v = predictors_bytes v.lms ++ pending_bytes v

decoder_joined : (m : ProcessingMode) (v : View) → v.mode ≡ m → decoder_bytes v ≡ joined (mode_fields m v) (rest_of v)
unfolding decoder_bytes mode_bytes facts_bytes rest_bytes joined mode_fields decoder_fields later_fields
decoder_joined Streaming v e = rw e (simp append_assoc)
decoder_joined (FixedSamples total c rate) v e = rw e (simp append_assoc)

flag_back : (b : Bool) (n : ℕ) → n ≡ cond b 1 0 → eqb n 1 ≡ b
flag_back true n e = rw e
flag_back false n e = rw e

flag_small : (b : Bool) → cond b 1 0 < 256 ^ 1
flag_small true = lit< tt
flag_small false = lit< tt

module _ (m total c rate : ℕ) (v : View) (holds : DecoderHolds v) where
  abbrev fields : List Field
  fields = decoder_fields m total c rate v

  abbrev block : List ℕ
  block = joined (decoder_fields m total c rate v) (rest_of v)

  channels_back : byte_in block 18 ≡ v.frame.channels
  unfolding decoder_fields later_fields
  channels_back = sym (be_one block 18) ∙ read_field (rest_of v) (there (there (there (there (there here))))) (omega (arith, holds.few_channels))

  next_back : be16 block 27 ≡ v.next
  unfolding decoder_fields later_fields
  next_back = read_field (rest_of v) (there (there (there (there (there (there (there (there (there here))))))))) holds.next_fits

  end_back : be16 block 29 ≡ v.end
  unfolding decoder_fields later_fields
  end_back = read_field (rest_of v) (there (there (there (there (there (there (there (there (there (there here)))))))))) (omega (arith, holds.few_pending))

  -- behind the fields
  rest_back : (n q : ℕ) → be n block (32 + q) ≡ be n (rest_of v) q
  unfolding decoder_fields later_fields widths
  rest_back n q = read_rest (decoder_fields m total c rate v) (rest_of v) n q

  lms_back : predictors_in block 32 (byte_in block 18) ≡ v.lms
  lms_back =
      ap (predictors_in block 32) channels_back
      ∙ predictors_back v.lms block 32 v.frame.channels holds.each_channel holds.few_channels holds.predictors
      (λ q within. rest_back 4 q ∙ be_append 4 (predictors_bytes v.lms) (pending_bytes v) q (omega (arith, length_predictors v.lms)))

  held_back : (i : ℕ) → i < pending_len → be 2 block (32 + 32 * max_channels + 2 * i) ≡ low16 (pending_at v i)
  unfolding pending_bytes
  held_back i l =
      let place : 32 + 32 * max_channels + 2 * i ≡ 32 + (length (predictors_bytes v.lms) + 2 * i) = omega (arith, length_predictors v.lms) in
      ap (be 2 block) place
      ∙ rest_back 2 (length (predictors_bytes v.lms) + 2 * i)
      ∙ be_past 2 (predictors_bytes v.lms) (pending_bytes v) (2 * i)
      ∙ ap (be 2 (pending_bytes v)) (sym (add-zero (2 * i)))
      ∙ inside 2 (λ k. bytes_of 2 (low16 (pending_at v k))) (λ k. length_bytes 2 (low16 (pending_at v k))) 2 0 (lit≤ tt) pending_len i l
      ∙ number_back 2 (low16 (pending_at v i)) (modulo_lt 0xffff (pending_at v i))

  -- the pending sample at a place of the range
  ranged : (k : ℕ) → pending_at v (v.next + k) ≡ at v.pending k
  unfolding pending_at
  ranged k =
      let past = le-ltb (v.next + k) v.next (omega arith) in
      let here : v.next + k - v.next ≡ k = omega arith in
      rw (past, here)

  sample_back : (k : ℕ) → k < v.end - v.next → sample_in block (v.next + k) ≡ at v.pending k
  sample_back k l =
      ap (to_z w16) (held_back (v.next + k) (omega (arith, holds.few_pending)) ∙ ap low16 (ranged k)) ∙ read_low w16 0xffff refl (lit≤ tt) (holds.pending_fit k)

  pending_back : table (be16 block 29 - be16 block 27) (λ k. sample_in block (be16 block 27 + k)) ≡ v.pending
  pending_back =
      ap₂ (λ (n e : ℕ). table (e - n) (λ k. sample_in block (n + k))) next_back end_back
      ∙ table_ext (v.end - v.next) (λ k. sample_in block (v.next + k)) (at v.pending) sample_back
      ∙ table_of (v.end - v.next) v.pending (pos 0) holds.each_pending

  all_back : mode_in block ≡ v.mode → decoder_in block ≡ v
  unfolding decoder_in frame_in decoder_fields later_fields
  all_back mode =
      let at : be64 block 10 ≡ v.at = read_field (rest_of v) (there (there (there (there here)))) holds.place_fits in
      let rates : be32 block 19 ≡ v.frame.rate = read_field (rest_of v) (there (there (there (there (there (there here)))))) holds.rate_fits in
      let samples : be16 block 23 ≡ v.frame.samples = read_field (rest_of v) (there (there (there (there (there (there (there here))))))) holds.samples_fit in
      let remaining : be16 block 25 ≡ v.remaining = read_field (rest_of v) (there (there (there (there (there (there (there (there here)))))))) holds.remaining_fits in
      let given = flag_back v.given (byte_in block 31) (sym (be_one block 31) ∙ read_field (rest_of v) (there (there (there (there (there (there (there (there (there (there (there here))))))))))) (flag_small v.given)) in
      λ i. record {
        mode = mode i;
        at = at i;
        frame = record { channels = channels_back i; rate = rates i; samples = samples i };
        remaining = remaining i;
        next = next_back i;
        end = end_back i;
        pending = pending_back i;
        given = given i;
        lms = lms_back i;
      }

pub decoder_back : (v : View) → DecoderHolds v → decoder_in (decoder_bytes v) ≡ v
unfolding mode_in mode_fields decoder_fields
decoder_back v holds = by v.mode refl
  where
    by : (m : ProcessingMode) → v.mode ≡ m → decoder_in (decoder_bytes v) ≡ v
    by Streaming e =
        let block = joined (decoder_fields 0 0 0 0 v) (rest_of v) in
        let none : byte_in block 0 ≡ 0 = sym (be_one block 0) ∙ read_field (rest_of v) here (lit< tt) in
        ap decoder_in (decoder_joined Streaming v e) ∙ all_back 0 0 0 0 v holds (rw none (sym e))
    by (FixedSamples total c rate) e =
        let block = joined (decoder_fields 1 total c rate v) (rest_of v) in
        let fits = subst (λ (m : ProcessingMode). ModeHolds m) e holds.mode_holds in
        let one : byte_in block 0 ≡ 1 = sym (be_one block 0) ∙ read_field (rest_of v) here (lit< tt) in
        let totals : be32 block 1 ≡ total = read_field (rest_of v) (there here) fits.0 in
        let channels : byte_in block 5 ≡ c = sym (be_one block 5) ∙ read_field (rest_of v) (there (there here)) fits.1 in
        let rates : be32 block 6 ≡ rate = read_field (rest_of v) (there (there (there here))) fits.2 in
        ap decoder_in (decoder_joined (FixedSamples total c rate) v e) ∙ all_back 1 total c rate v holds (rw (one, totals, channels, rates) (sym e))
