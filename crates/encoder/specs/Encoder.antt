-- An encoder's state: what it means, its rules, and a new one. Assumes nothing.
use Rattle.std.specs.Prelude.{ℕ, Bool, ◌&&◌, List, [], ◌∷◌, eqb, leb, ltb, replicate}
use Rattle.refusal.specs.Rules.{Rule, ◌gives◌}
use Rattle.word.specs.Table.{table}
use Rattle.lms.specs.Predictor.{new_lms, history_rule, zero_lms}
use Rattle.lms.specs.declared.QoaLms.{QoaLms}
use Rattle.format.specs.Format.{max_channels, most_rate}
use Rattle.format.specs.Predictor.{lms_of}
use Rattle.word.specs.Below.{below}
use Rattle.encoder.specs.declared.QoaEncoder.{QoaEncoder}

-- the state without the unused channels
pub record EncoderView : Type 0 where
  pub channels : ℕ
  pub rate : ℕ
  pub total : ℕ
  pub lms : List QoaLms

unfoldable pub encoder_view : QoaEncoder → EncoderView
encoder_view e = record { channels = e.channels; rate = e.rate; total = e.total; lms = table e.channels (lms_of e.lms) }

-- c from 1 to the limit, rate likewise, total at least 1, used histories in 16 bits
unfoldable pub good_encoder : EncoderView → Bool
good_encoder v =
    leb 1 v.channels
    && (leb v.channels max_channels
    && (leb 1 v.rate
    && (leb v.rate most_rate
    && (leb 1 v.total
    && below v.channels (λ j. history_rule (lms_of v.lms j))))))

-- ---- creation

-- 11: 0 channels or over the limit; 12: rate 0 or over its limit; 13: total 0
unfoldable pub create_rules : ℕ → ℕ → ℕ → List Rule
create_rules c rate total =
    (eqb c 0 gives 11)
    ∷ (ltb max_channels c gives 11)
    ∷ (eqb rate 0 gives 12)
    ∷ (ltb most_rate rate gives 12)
    ∷ (eqb total 0 gives 13)
    ∷ []

unfoldable pub new_view : ℕ → ℕ → ℕ → EncoderView
new_view c rate total = record { channels = c; rate = rate; total = total; lms = table c (λ j. new_lms) }

-- the state of a refusal: all zero
unfoldable pub zero_encoder : QoaEncoder
zero_encoder = record { channels = 0; rate = 0; total = 0; lms = replicate max_channels zero_lms }
