-- `into::decode_into` meets its contract. Assumes nothing.
use mathlib.Core.Path.{◌≡◌, refl, ap, sym, ◌∙◌}
use mathlib.Core.Bool.{true}
use Prim.Native.Nat.{ℕ, ◌+◌, ◌-◌, ◌*◌, ◌≤◌, ◌<◌, min}
use native.Mathlib.Nat.{mul-le-mul}
use native.Mathlib.Omega.{arith}
use borrow.Author.Rules.{rules}
use lib.ListN.{length}
use Rattle.format.specs.Format.{max_channels}
use Rattle.state.specs.View.{total, view}
use Rattle.state.specs.States.{good_state}
use Rattle.into.specs.Into.{groups_for}
use Rattle.into.proofs.Counts.{factor_some, groups_most}
use Rattle.into.proofs.IntoLaws.{into_bad, into_cut, into_more, into_pending}
use Rattle.into.proofs.Sound.{Sound, sound}
use Rattle.into.proofs.decode_into.Goals as goal
use Rattle.into.proofs.decode_into.Goals.{After-groups_for, After-min-count, Else-bytes-d, Else-count-waiting, Else-not-is_good, Start}

pub returns-then-not-is_good : goal.returns-then-not-is_good
returns-then-not-is_good c =
    let args = c.args in
    into_bad args.bytes.now args.d args.out.now c.refused.result (sym c.is_good.ensures ∙ c.if-not-is_good.true) c.refused.ensures.0 c.refused.ensures.1

-- ---- a good state

is-good : (c : Else-not-is_good) → good_state (view c.args.d) (length c.args.bytes.now) ≡ true
is-good c = sym c.is_good.ensures ∙ c.if-not-is_good.false

facts : (c : Else-not-is_good) → Sound c.args.d (length c.args.bytes.now)
facts c = sound _ _ (is-good c)

start_small : (c : Start) → c.args.d.remaining ≤ 65535
start_small c = search rules

small : (c : Else-not-is_good) → c.args.d.remaining ≤ 65535
small c = start_small (goal.at.Else-not-is_good c).Start

product : (c : Else-not-is_good) → c.args.d.remaining * c.args.d.frame.channels ≤ 65535 * max_channels
product c = mul-le-mul (small c) (facts c).few_channels

pub overflow_sub-waiting : goal.overflow_sub-waiting
overflow_sub-waiting c = (facts (goal.at.overflow_sub-waiting c).Else-not-is_good).in_order

pub overflow_add-waiting : goal.overflow_add-waiting
overflow_add-waiting c = omega (arith, product (goal.at.overflow_add-waiting c).Else-not-is_good, (facts (goal.at.overflow_add-waiting c).Else-not-is_good).one_group, (facts (goal.at.overflow_add-waiting c).Else-not-is_good).few_channels)

-- the count
abbrev start_of : After-min-count → Start
start_of c = (goal.at.After-min-count c).Start

count_is : (c : After-min-count) →
    let args = (start_of c).args in
    c.min-count.result ≡ min (length args.out.now) (total (view args.d))
unfolding view
count_is c = c.min-count.ensures

count_room : (c : After-min-count) → c.min-count.result ≤ length (start_of c).args.out.now
count_room c = omega (arith, c.min-count.ensures)

count-there : (c : After-min-count) →
    let d = (start_of c).args.d in
    c.min-count.result ≤ d.end - d.next + d.remaining * d.frame.channels
count-there c = omega (arith, c.min-count.ensures)

pub copy_out-requires : goal.copy_out-requires
copy_out-requires c =
    let s = facts (goal.at.copy_out-requires c).Else-not-is_good in
    record { there = omega (arith, s.in_order, s.one_group, s.few_channels); room = omega (arith, count_room (goal.at.copy_out-requires c).After-min-count) }

pub after_pending-requires : goal.after_pending-requires
after_pending-requires c = ((facts (goal.at.after_pending-requires c).Else-not-is_good).in_order, c.if-count-waiting.true)

pub returns-then-count-waiting : goal.returns-then-count-waiting
unfolding view
returns-then-count-waiting c =
    let args = (start_of (goal.at.returns-then-count-waiting c).After-min-count).args in
    into_pending args.bytes.now args.d args.out.now c.min-count.result c.after_pending.result _ (is-good (goal.at.returns-then-count-waiting c).Else-not-is_good) (count_is (goal.at.returns-then-count-waiting c).After-min-count) c.if-count-waiting.true
    (c.after_pending.ensures args.bytes.now) c.copy_out.ensures

-- ---- more than the pending samples

more_there : (c : Else-count-waiting) →
    let d = (start_of (goal.at.Else-count-waiting c).After-min-count).args.d in
    c.min-count.result - (d.end - d.next) ≤ d.remaining * d.frame.channels
more_there c = omega (arith, count-there (goal.at.Else-count-waiting c).After-min-count)

some_channels : (c : Else-count-waiting) → 0 < (start_of (goal.at.Else-count-waiting c).After-min-count).args.d.frame.channels
some_channels c =
    let d = (start_of (goal.at.Else-count-waiting c).After-min-count).args.d in
    factor_some d.remaining d.frame.channels (c.min-count.result - (d.end - d.next)) (omega (arith, c.if-count-waiting.false)) (more_there c)

pub groups_for-requires : goal.groups_for-requires
groups_for-requires c = (some_channels c, (facts (goal.at.groups_for-requires c).Else-not-is_good).few_channels, omega (arith, more_there c, product (goal.at.groups_for-requires c).Else-not-is_good))

groups-small : (c : After-groups_for) → c.groups_for.result * (start_of (goal.at.After-groups_for c).After-min-count).args.d.frame.channels ≤ 65555 * max_channels * max_channels
groups-small c =
    let s = facts (goal.at.After-groups_for c).Else-not-is_good in
    let d = (start_of (goal.at.After-groups_for c).After-min-count).args.d in
    let most = groups_most d.frame.channels (c.min-count.result - (d.end - d.next)) in
    mul-le-mul {n₂ = 65555 * max_channels} {m₂ = max_channels} (omega (arith, c.groups_for.ensures, s.few_channels, more_there (goal.at.After-groups_for c).Else-count-waiting, product (goal.at.After-groups_for c).Else-not-is_good)) s.few_channels

pub overflow_mul-groups_for : goal.overflow_mul-groups_for
overflow_mul-groups_for c = omega (arith, groups-small c)

pub overflow_mul-groups_for-2 : goal.overflow_mul-groups_for-2
overflow_mul-groups_for-2 c = omega (arith, groups-small c)

pub overflow_add-d : goal.overflow_add-d
overflow_add-d c = omega (arith, groups-small c, (facts (goal.at.overflow_add-d c).Else-not-is_good).place, (start_of (goal.at.overflow_add-d c).After-min-count).well_formed)

pub returns-then-bytes-d : goal.returns-then-bytes-d
unfolding view
returns-then-bytes-d c =
    let args = (start_of (goal.at.returns-then-bytes-d c).After-min-count).args in
    into_cut args.bytes.now args.d args.out.now c.min-count.result (c.min-count.result - (args.d.end - args.d.next)) c.groups_for.result
    (is-good (goal.at.returns-then-bytes-d c).Else-not-is_good) (count_is (goal.at.returns-then-bytes-d c).After-min-count) refl c.groups_for.ensures c.refused-then-bytes-d.result c.if-bytes-d.true c.refused-then-bytes-d.ensures.0 c.refused-then-bytes-d.ensures.1

-- the groups are there
whole_there : (c : Else-bytes-d) →
    let args = (start_of (goal.at.Else-bytes-d c).After-min-count).args in
    args.d.at + 8 * (groups_for args.d.frame.channels (c.min-count.result - (args.d.end - args.d.next)) * args.d.frame.channels) ≤ length args.bytes.now
whole_there c =
    let product = ap (λ (k : ℕ). k * (start_of (goal.at.Else-bytes-d c).After-min-count).args.d.frame.channels) c.groups_for.ensures in
    omega (arith, c.if-bytes-d.false)

pub decode_more-requires : goal.decode_more-requires
unfolding view
decode_more-requires c =
    let args = (start_of (goal.at.decode_more-requires c).After-min-count).args in record { good = is-good (goal.at.decode_more-requires c).Else-not-is_good; some = (omega (arith, c.if-count-waiting.false), more_there (goal.at.decode_more-requires c).Else-count-waiting); whole = whole_there (goal.at.decode_more-requires c).Else-bytes-d; room = omega (arith, count_room (goal.at.decode_more-requires c).After-min-count, c.if-count-waiting.false) }

pub returns : goal.returns
unfolding view
returns c =
    let args = (start_of (goal.at.returns c).After-min-count).args in
    let more = c.min-count.result - (args.d.end - args.d.next) in
    into_more args.bytes.now args.d args.out.now c.min-count.result more (groups_for args.d.frame.channels more)
    (is-good (goal.at.returns c).Else-not-is_good) (count_is (goal.at.returns c).After-min-count) refl refl c.decode_more.result _ (omega (arith, c.if-count-waiting.false)) (whole_there (goal.at.returns c).Else-bytes-d)
    c.decode_more.ensures.state c.decode_more.ensures.samples
