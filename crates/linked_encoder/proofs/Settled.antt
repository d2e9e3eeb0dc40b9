-- Any two answers that a contract permits are equal, with all that is left in lent memory: a statement for each C function. Assumes nothing.
use Prim.Native.Nat.{ℕ}
use mathlib.Core.Path.{◌≡◌, sym, ◌∙◌}
use mathlib.Core.List.{List}
use lib.IntN.{ℤ, pos}
use Rattle.encoder.specs.Calls.{Told}
use Rattle.encoder.specs.Encoder.{EncoderView}
use Rattle.block.specs.EncoderBlock.{encoder_size}
use Rattle.linked_encoder.specs.Linked.{EncodeLinked, FileLinked, FrameLinked, HeaderLinked, NewLinked}

-- two things that equal a third are equal
same : {A : Type 0} {x r s : A} → r ≡ x → s ≡ x → r ≡ s
same p q = p ∙ sym q

-- a call after which the state goes on
linked : (block : List ℕ) (told : Told) (next : EncoderView) (memory out : List ℕ) (r s : ℤ) (x y v w : List ℕ)
    → EncodeLinked block told next memory out r x v → EncodeLinked block told next memory out s y w → (r ≡ s) × (x ≡ y) × (v ≡ w)
linked block told next memory out r s x y v w p q = (same p.answer q.answer, same p.state q.state, same p.bytes q.bytes)

pub qoa_encoder_size : (r s : ℤ) → r ≡ pos encoder_size → s ≡ pos encoder_size → r ≡ s
qoa_encoder_size r s = same

pub qoa_encoder_new : (c rate total : ℕ) (block : List ℕ) (r s : ℤ) (x y : List ℕ) → NewLinked c rate total block r x → NewLinked c rate total block s y → (r ≡ s) × (x ≡ y)
qoa_encoder_new c rate total block r s x y p q = (same p.answer q.answer, same p.state q.state)

pub qoa_encoder_header : (block out : List ℕ) (r s : ℤ) (v w : List ℕ) → HeaderLinked block out r v → HeaderLinked block out s w → (r ≡ s) × (v ≡ w)
qoa_encoder_header block out r s v w p q = (same p.answer q.answer, same p.bytes q.bytes)

pub qoa_encoder_frame : (block : List ℕ) (samples : List ℤ) (out : List ℕ) (r s : ℤ) (x y v w : List ℕ) → FrameLinked block samples out r x v → FrameLinked block samples out s y w → (r ≡ s) × (x ≡ y) × (v ≡ w)
qoa_encoder_frame block samples out = linked _ _ _ _ _

pub qoa_encoder_file : (block : List ℕ) (samples : List ℤ) (out : List ℕ) (r s : ℤ) (x y v w : List ℕ) → FileLinked block samples out r x v → FileLinked block samples out s y w → (r ≡ s) × (x ≡ y) × (v ≡ w)
qoa_encoder_file block samples out = linked _ _ _ _ _
