-- `into::decode_more` meets its contract. Assumes nothing.
use mathlib.Core.Path.{◌≡◌, ap, ◌∙◌}
use mathlib.Core.List.{List}
use Prim.Native.Nat.{ℕ, ◌+◌, ◌-◌, ◌*◌, ◌/◌, ◌%◌, ◌≤◌, ◌<◌}
use native.Mathlib.Nat.{div-add-mod', mul-le-mul, mul-le-mul_right}
use native.Mathlib.Omega.{arith}
use borrow.Author.Rules.{rules}
use lib.Dec.{lit≤}
use lib.IntN.{ℤ, pos}
use lib.ListN.{get_or, length, replicate, length-replicate}
use Rattle.word.specs.Parts.{written}
use Rattle.word.proofs.Writes.{length_written}
use Rattle.lms.specs.declared.QoaLms.{QoaLms}
use Rattle.lms.proofs.Bounds.{within_more}
use Rattle.format.specs.Format.{max_channels, pending_len, slices_of}
use Rattle.groups.specs.Groups.{groups_at}
use Rattle.state.specs.View.{view}
use Rattle.into.specs.Into.{groups_for}
use Rattle.into.proofs.Counts.{Split, factor_some, groups_are, last_few, rest_le, slices_whole, split_at, whole_needed, whole_there}
use Rattle.into.proofs.Coming.{last_aside, stored_from}
use Rattle.into.proofs.Sound.{Sound, length_mapped, run_ready, sound}
use Rattle.into.proofs.Taken.{view_more_left}
use Rattle.groups.specs.Parts.{groups_states}
use Rattle.into.proofs.decode_more.Goals as goal
use Rattle.into.proofs.decode_more.Goals.{After-copy_out, After-decode_groups-run, After-last_samples-n, After-slices_of, Start}

-- ---- what is known at the start

facts : (c : Start) → Sound c.args.d (length c.args.bytes.now)
facts c = sound c.args.d (length c.args.bytes.now) c.requires.good

-- the array of predictors
long : (c : Start) → length c.args.d.lms ≡ max_channels
long c = search length_mapped

some_channels : (c : Start) → 0 < c.args.d.frame.channels
some_channels c = factor_some c.args.d.remaining c.args.d.frame.channels c.args.more c.requires.some.0 c.requires.some.1

-- the numbers of the call
abbrev channels : Start → ℕ
channels c = c.args.d.frame.channels

abbrev whole : Start → ℕ
whole c = c.args.more / (20 * channels c)

abbrev rest : Start → ℕ
rest c = c.args.more % (20 * channels c)

abbrev kept : Start → ℕ
kept c = c.args.d.end - c.args.d.next

small : (c : Start) → c.args.d.remaining ≤ 65535
small c = search rules

whole_le : (c : Start) → 20 * whole c ≤ c.args.d.remaining
whole_le c = whole_there (channels c) c.args.d.remaining c.args.more (some_channels c) c.requires.some.1

-- the groups end within the bytes, and the samples within the room
bytes-there : (c : Start) → c.args.d.at + 8 * (groups_for (channels c) c.args.more * channels c) ≤ length c.args.bytes.now
unfolding view
bytes-there c = c.requires.whole

room : (c : Start) → kept c + c.args.more ≤ length c.args.out.now
unfolding view
room c = c.requires.room

whole-bytes : (c : Start) → c.args.d.at + 8 * (whole c * channels c) ≤ length c.args.bytes.now
whole-bytes c =
    let le = mul-le-mul_right (channels c) (whole_needed (channels c) c.args.d.remaining c.args.more (some_channels c) c.requires.some.1) in
    omega (arith, bytes-there c)

parts : (c : Start) → whole c * (20 * channels c) + rest c ≡ c.args.more
parts c = div-add-mod' c.args.more (20 * channels c)

pub overflow_sub-kept : goal.overflow_sub-kept
overflow_sub-kept c = (facts (goal.at.overflow_sub-kept c).Start).in_order

pub copy_out-requires : goal.copy_out-requires
copy_out-requires c =
    let s = facts (goal.at.copy_out-requires c).Start in
    record { there = omega (arith, s.in_order, s.one_group, s.few_channels); room = omega (arith, room (goal.at.copy_out-requires c).Start) }

-- the pending samples, as they are stored
first_out : (c : After-copy_out) →
    c.copy_out.new.out ≡ written (λ i. get_or c.args.d.pending (c.args.d.next + i) (pos 0)) c.args.out.now 0 1 (kept (goal.at.After-copy_out c).Start)
first_out c = c.copy_out.ensures

first-length : (c : After-copy_out) →
    length c.copy_out.new.out ≡ length c.args.out.now
first-length c = rw (first_out c) (length_written _ _ _ _ _)

pub decode_groups-run-requires : goal.decode_groups-run-requires
decode_groups-run-requires c =
    let s = facts (goal.at.decode_groups-run-requires c).Start in record { small = (s.few_channels, omega (arith, whole_le (goal.at.decode_groups-run-requires c).Start, small (goal.at.decode_groups-run-requires c).Start)); whole = rw slices_whole (omega (arith, whole-bytes (goal.at.decode_groups-run-requires c).Start)); room = rw (first-length (goal.at.decode_groups-run-requires c).After-copy_out) (omega (arith, room (goal.at.decode_groups-run-requires c).Start, parts (goal.at.decode_groups-run-requires c).Start)); weights = λ j h. within_more (lit≤ tt) (s.weights j h) }

pub overflow_sub-left : goal.overflow_sub-left
overflow_sub-left c = whole_le (goal.at.overflow_sub-left c).Start

pub overflow_add-place : goal.overflow_add-place
overflow_add-place c =
    omega (arith, whole-bytes (goal.at.overflow_add-place c).Start, c.well_formed)

-- ---- the last group

abbrev start_of : After-last_samples-n → Start
start_of c = (goal.at.After-last_samples-n c).Start

split : (c : After-last_samples-n) →
    let start = start_of c in
    Split (channels start) start.args.d.remaining start.args.more (whole start) (rest start) c.last_samples-n.result
split c =
    let start = start_of c in
    split_at (channels start) start.args.d.remaining start.args.more c.last_samples-n.result (some_channels start) start.requires.some.1 c.last_samples-n.ensures.0 c.last_samples-n.ensures.1

last-bytes : (c : After-last_samples-n) →
    let start = start_of c in
    start.args.d.at + 8 * (whole start * channels start) + 8 * (slices_of c.last_samples-n.result * channels start) ≤ length start.args.bytes.now
last-bytes c =
    let start = start_of c in
    let all = rw (groups_are (split c)) at (bytes-there start) in
    omega arith

last-room : (c : After-last_samples-n) → c.last_samples-n.result * channels (start_of c) ≤ pending_len
last-room c = mul-le-mul (last_few (split c)) (facts (start_of c)).few_channels

-- the predictors after the whole groups
run_is : (c : After-decode_groups-run) →
    c.decode_groups-run.result ≡ groups_states c.args.bytes.now c.args.d.at (channels (goal.at.After-decode_groups-run c).Start) c.args.d.lms (whole (goal.at.After-decode_groups-run c).Start)
run_is c = c.decode_groups-run.ensures.states ∙ rw slices_whole

pub decode_groups-last-requires : goal.decode_groups-last-requires
decode_groups-last-requires c =
    let start = start_of (goal.at.decode_groups-last-requires c).After-last_samples-n in
    let s = facts start in record { small = (s.few_channels, omega (arith, last_few (split (goal.at.decode_groups-last-requires c).After-last_samples-n))); whole = omega (arith, last-bytes (goal.at.decode_groups-last-requires c).After-last_samples-n); room = omega (arith, last-room (goal.at.decode_groups-last-requires c).After-last_samples-n); weights = rw (run_is (goal.at.decode_groups-last-requires c).After-decode_groups-run) (run_ready start.args.d start.args.bytes.now (whole start) s (omega (arith, whole_le start, small start))) }

pub overflow_add-kept : goal.overflow_add-kept
overflow_add-kept c =
    let start = start_of (goal.at.overflow_add-kept c).After-last_samples-n in
    omega (arith, parts start, room start, start.well_formed)

-- the whole groups' samples, as they are stored
second-out : (c : After-decode_groups-run) →
    c.decode_groups-run.new.out
    ≡ written (groups_at c.args.bytes.now c.args.d.at (channels (goal.at.After-decode_groups-run c).Start) c.args.d.lms)
    (written (λ i. get_or c.args.d.pending (c.args.d.next + i) (pos 0)) c.args.out.now 0 1 (kept (goal.at.After-decode_groups-run c).Start)) (kept (goal.at.After-decode_groups-run c).Start) 1 (20 * whole (goal.at.After-decode_groups-run c).Start * channels (goal.at.After-decode_groups-run c).Start)
second-out c = c.decode_groups-run.ensures.samples ∙ rw (first_out (goal.at.After-decode_groups-run c).After-copy_out)

second-length : (c : After-decode_groups-run) →
    length c.decode_groups-run.new.out ≡ length c.args.out.now
second-length c = rw (second-out c, length_written, length_written)

pub copy_out-requires-2 : goal.copy_out-requires-2
copy_out-requires-2 c =
    let start = start_of (goal.at.copy_out-requires-2 c).After-last_samples-n in
    record { there = omega (arith, rest_le (split (goal.at.copy_out-requires-2 c).After-last_samples-n), last-room (goal.at.copy_out-requires-2 c).After-last_samples-n); room = rw (second-length (goal.at.copy_out-requires-2 c).After-decode_groups-run) (omega (arith, parts start, room start)) }

abbrev told_of : After-slices_of → After-last_samples-n
told_of c = (goal.at.After-slices_of c).After-last_samples-n

-- the place after the last group
last-place : (c : After-slices_of) →
    let start = start_of (told_of c) in
    start.args.d.at + 8 * (whole start * channels start) + 8 * (c.slices_of.result * channels start) ≤ length start.args.bytes.now
last-place c =
    let slices = ap (λ (k : ℕ). k * channels (start_of (told_of c))) c.slices_of.ensures in
    omega (arith, last-bytes (told_of c))

pub overflow_mul-result : goal.overflow_mul-result
overflow_mul-result c = omega (arith, last-place c, (start_of (told_of c)).well_formed)

pub overflow_mul-result-2 : goal.overflow_mul-result-2
overflow_mul-result-2 c = omega (arith, last-place c, (start_of (told_of c)).well_formed)

pub overflow_add-result : goal.overflow_add-result
overflow_add-result c = omega (arith, last-place c, (start_of (told_of c)).well_formed)

pub returns : goal.returns
unfolding view
returns c =
    let told = told_of (goal.at.returns c).After-slices_of in
    let start = start_of told in
    let d = start.args.d in
    let bs = start.args.bytes.now in
    let n = told.last_samples-n.result in
    let m = n * channels start in
    let s = split told in
    let aside : List ℤ = replicate pending_len (pos 0) in
    let used : channels start ≤ length d.lms = omega (arith, long start, (facts start).few_channels) in
    let fits : m ≤ length aside = rw length-replicate (last-room told) in
    let run = run_is (goal.at.After-last_samples-n told).After-decode_groups-run in
    let last = c.decode_groups-last in
    let range = c.pending_range-next.ensures in
    let fresh-is : last.new.out ≡ last_aside bs d (some_channels start) used (whole start) m aside fits =
    last.ensures.samples ∙ ap (λ (states : List QoaLms). written (groups_at bs (d.at + 8 * (whole start * channels start)) (channels start) states) aside 0 1 m) run in
    let place : kept start + whole start * (20 * channels start) ≡ kept start + 20 * whole start * channels start = omega arith in
    let count : kept start + start.args.more ≡ kept start + 20 * whole start * channels start + rest start = omega (arith, parts start) in record {
      state = rw (c.slices_of.ensures, range.0, range.1, last.ensures.states, last.ensures.samples, run)
          (view_more_left bs d s start.requires.some.0 used aside fits);
      samples = c.copy_out-2.ensures
          ∙ stored_from bs d (some_channels start) used (whole start) m aside fits start.args.out.now _ _ _ _ (rest start) (rest_le s)
          fresh-is (second-out (goal.at.After-last_samples-n told).After-decode_groups-run) place count;
    }
