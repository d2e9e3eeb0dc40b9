-- `state::opening::opened` meets its contract: the file header's refusal, a stream, the first frame's refusal, a fixed file. Assumes nothing.
use mathlib.Core.Path.{◌≡◌, sym, ap, ◌∙◌}
use mathlib.Core.Option.{none}
use Prim.Native.Nat.{ℕ}
use Rattle.refusal.specs.Rules.{Answer, after, first_of, good}
use Rattle.refusal.proofs.Rules.{after_good, after_refused, good_same, none_fires}
use Rattle.std.proofs.lemmas.Result.{err_from_is_err_and}
use Rattle.word.proofs.BytesLaws.{be_lt_bits}
use Rattle.format.specs.Parts.{file_header}
use Rattle.format.specs.Header.{header_at}
use Rattle.state.specs.Opening.{first_rules}
use Rattle.state.proofs.Openings.{file_refused, file_total, first_facts, fixed_rules, stream_rules}
use Rattle.state.proofs.opening.opened.Goals as goal
use Rattle.state.proofs.opening.opened.Goals.{In_ok-h, In_ok-total}

-- the file header said a total
file_said : (c : In_ok-total) → file_header c.args.bytes.now ≡ good c.in_ok-total.total
file_said c = sym c.in_ok-total.ensures

-- a good first frame
first_said : (c : In_ok-h) → after (first_rules c.args.bytes.now) (good (header_at c.args.bytes.now 8)) ≡ good c.in_ok-h.h
first_said c = sym c.in_ok-h.ensures

first_quiet : (c : In_ok-h) → first_of (first_rules c.args.bytes.now) ≡ none
first_quiet c =
    let bs = c.args.bytes.now in
    none_fires (first_rules bs) (after_good (first_rules bs) (good (header_at bs 8)) c.in_ok-h.h (first_said c)).0

first_read : (c : In_ok-h) → header_at c.args.bytes.now 8 ≡ c.in_ok-h.h
first_read c =
    let bs = c.args.bytes.now in
    good_same _ _ (after_good (first_rules bs) (good (header_at bs 8)) c.in_ok-h.h (first_said c)).1

pub returns-in_err-total : goal.returns-in_err-total
returns-in_err-total c =
    let p = err_from_is_err_and c.from_residual.result c.from_residual.ensures.1 in
    rw (p.1, p.2) (file_refused c.args.bytes.now _ (sym c.in_err-total.ensures))

pub returns-then-total-eq0 : goal.returns-then-total-eq0
returns-then-total-eq0 c =
    let bs = c.args.bytes.now in
    let rules = stream_rules bs (file_said (goal.at.returns-then-total-eq0 c).In_ok-total ∙ ap {B = Answer ℕ} good c.if-total-eq0.true) in
    (rules.0, c.stream_state.ensures ∙ sym rules.1)

pub returns-in_err-h : goal.returns-in_err-h
returns-in_err-h c =
    let bs = c.args.bytes.now in
    let p = err_from_is_err_and c.from_residual-in_err-h.result c.from_residual-in_err-h.ensures.1 in
    let fixed = fixed_rules bs c.in_ok-total.total (file_said (goal.at.returns-in_err-h c).In_ok-total) c.if-total-eq0.false in
    rw (p.1, p.2) (fixed.0 ∙ after_refused (first_rules bs) (header_at bs 8) _ (sym c.in_err-h.ensures))

-- a total of four bytes is one of 32 bits
pub overflow_cast-total : goal.overflow_cast-total
overflow_cast-total c =
    let bs = c.args.bytes.now in
    let same = file_total bs c.in_ok-total.total (file_said (goal.at.overflow_cast-total c).In_ok-total) in
    record { fits = rw (sym same) (be_lt_bits 4 bs 4 (λ i. (c.type_inv.bytes i).fits)) }

pub fixed_state-requires : goal.fixed_state-requires
fixed_state-requires c =
    let bs = c.args.bytes.now in
    let h = (goal.at.fixed_state-requires c).In_ok-h in
    let facts = rw (first_read h) at (first_facts bs (first_quiet h)) in
    (sym (file_total bs c.in_ok-total.total (file_said (goal.at.fixed_state-requires c).In_ok-total)), sym (first_read h), facts.0, facts.1)

pub returns : goal.returns
returns c =
    let bs = c.args.bytes.now in
    let fixed = fixed_rules bs c.in_ok-total.total (file_said (goal.at.returns c).In_ok-total) c.if-total-eq0.false in
    (fixed.0 ∙ first_quiet (goal.at.returns c).In_ok-h, c.fixed_state.ensures ∙ sym fixed.1)
