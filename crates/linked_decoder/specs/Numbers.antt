-- Frames and items as one number. Assumes nothing.
use Rattle.std.specs.Prelude.{ℕ, ◌+◌, ◌*◌, ◌^◌, Option, Some, None}
use Rattle.wrap.specs.Wrap.{low16}
use Rattle.state.specs.declared.FrameFacts.{FrameFacts}
use Rattle.decoder.specs.declared.QoaItem.{QoaItem}
use Rattle.decoder.specs.declared.QoaItem.TheVariants.{Header, Sample}

-- channels * 2^48 + rate * 2^16 + samples per channel
abbrev pub frame_code : FrameFacts → ℕ
frame_code f = f.channels * 2 ^ 48 + f.rate * 2 ^ 16 + f.samples

-- 0 at the end
abbrev pub found_code : Option FrameFacts → ℕ
found_code None = 0
found_code (Some f) = frame_code f

-- a header has 2^60 above it, a sample 2^61 above its 16 bits
abbrev pub item_code : Option QoaItem → ℕ
item_code None = 0
item_code (Some (Header f)) = 2 ^ 60 + frame_code f
item_code (Some (Sample z)) = 2 ^ 61 + low16 z
