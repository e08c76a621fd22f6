-- What a unit's state is after a history, and what each line's flag is.
use Rattle.std.proofs.Common.{◌≡◌, ℕ, ◌+◌, ◌-◌, ◌*◌, ◌^◌, ◌<◌, ◌≤◌, min, Bool, true, false, not, ◌&&◌, ◌==◌, nat_lt, nat_le, List, [], ◌∷◌, refl, ◌∙◌, ap, arith, add_comm, ◌||◌}
use Rattle.std.specs.Prelude.{if◌then◌else◌}
use Rattle.std.specs.List.{AllByRecursion}
use Rattle.std.proofs.lemmas.Bool.Decides.{nat_tests}
use Rattle.std.proofs.lemmas.List.{set-get_or}
use Rattle.std.proofs.lemmas.List.FromFn.{get_or-map-range_with_len}
use Rattle.std.proofs.lemmas.Nat.Bits.{bit_at_cat_low, bit_at_cat_high}
use Rattle.std.proofs.lemmas.Bool.{and_from}
use Rattle.mcal_base.specs.facts.Truths.{and_false, and_second, or_true}
use Rattle.mcal_base.specs.facts.Numbers.{eq_from, eq_is, same_or_other}
use Rattle.mcal_base.specs.Bits.{has_bit, bit_of}
use Rattle.mcal_base.proofs.BitLaws.{has_bit-or, has_bit-pow_same}
use Rattle.mcal_base.specs.declared.register.Reg.TheVariants.{ConverterList, ConverterGo, ConverterAbort, ConverterAck}
use Rattle.chip_blocks.specs.converter.Rounds.{Round, opened, ended, has_ended, is_idle, is_finished, is_running, over}
use Rattle.chip_blocks.specs.converter.Converters.{Converters, result, settled, unused, unit_at, with_unit, gone, listed, begun, aborted, acknowledged, flags_of, after_read, after_write, after_pulse}
use Rattle.chip_blocks.specs.converter.Accesses.{Access, after, after_all, LeavesFinished, LeavesResults, round_at, HasUnit}
use Rattle.chip_blocks.specs.converter.Accesses as accesses
use Rattle.chip_blocks.specs.declared.converter.converter.Converter.{Converter}
use Rattle.chip_blocks.proofs.of_converter.HistoryLaws.{unit_at-with_unit_same, unit_at-analog, either_seen, with_seen, gone-busy, has_unit-after, time-after, ended-later, has_ended-not_yet, finished_on, result_at, result-waits}

-- ---- what does nothing

-- a unit that is put back
pub with_unit-same : (b : Converters) (u : ℕ) → with_unit b u (unit_at b u) ≡ b
with_unit-same b u = ap (λ xs. record b { units = xs }) (set-get_or b.units u unused)

pub go-busy : (b : Converters) (u count : ℕ) → is_idle (round_at b u) ≡ false → after_write b (ConverterGo u) count ≡ b
go-busy b u count on = ap (with_unit b u) (gone-busy b.levels count b.time (unit_at b u) on) ∙ with_unit-same b u

pub abort-not_running : (b : Converters) (u : ℕ) → is_running (round_at b u) b.time ≡ false → after_read b (ConverterAbort u) ≡ b
abort-not_running b u off =
    ap (λ q. with_unit b u (if q then record (unit_at b u) { round = over b.time (round_at b u) } else unit_at b u)) off ∙ with_unit-same b u

-- ---- a round that begins

both_within : (count : ℕ) → 1 ≤ count → count ≤ 32 → (nat_le 1 count && nat_le count 32) ≡ true
both_within count some few = grind (arith, nat_tests)

pub unit_at-begun : (b : Converters) (u count : ℕ) → HasUnit b u → is_idle (round_at b u) ≡ true → 1 ≤ count → count ≤ 32
    → unit_at (after_write b (ConverterGo u) count) u ≡ begun count b.time (settled b.levels b.time (unit_at b u))
unit_at-begun b u count h idle some few =
    unit_at-with_unit_same b u (gone b.levels count b.time (unit_at b u)) h
    ∙ rw (idle, both_within count some few) refl

-- its results are those that stood, as long as no input has ended
pub result-begun : (b : Converters) (u i count : ℕ) → HasUnit b u → is_idle (round_at b u) ≡ true → 1 ≤ count → count ≤ 32 → i < 32
    → result_at (after_write b (ConverterGo u) count) u i ≡ result_at b u i
result-begun b u i count h idle some few lt =
    let none : has_ended (opened b.time count (unit_at b u).list) i b.time ≡ false =
    has_ended-not_yet (opened b.time count (unit_at b u).list) i b.time (omega arith) in
    ap (λ a. result b.levels b.time a i) (unit_at-begun b u count h idle some few)
    ∙ rw none (get_or-map-range_with_len (λ k. result b.levels b.time (unit_at b u) k) 0 32 i i 0 lt (omega arith))

pub result-until_ended : (b : Converters) (u i count : ℕ) (xs : List Access) → HasUnit b u → is_idle (round_at b u) ≡ true → 1 ≤ count → count ≤ 32 → i < 32
    → AllByRecursion (LeavesResults u) xs → (after_all (after_write b (ConverterGo u) count) xs).time < b.time + 4 * (i + 1)
    → result_at (after_all (after_write b (ConverterGo u) count) xs) u i ≡ result_at b u i
result-until_ended b u i count xs h idle some few lt left early =
    let b' : Converters = after_write b (ConverterGo u) count in
    let there : HasUnit b' u = has_unit-after b u (accesses.Writes (ConverterGo u) count) h in
    let start : (round_at b' u).start ≡ b.time = ap (λ (a : Converter). a.round.start) (unit_at-begun b u count h idle some few) in
    result-waits b' u i xs there lt left (omega (arith, start)) ∙ result-begun b u i count h idle some few lt

-- ---- a finished round

most : (count k : ℕ) → min count k ≤ count
most count k = omega arith

pub finished-later : (r : Round) (a b : ℕ) → a ≤ b → is_finished r a ≡ true → is_finished r b ≡ true
finished-later r a b le e =
    let on : is_idle r ≡ false = finished_on a r e in
    let all : ended r a ≡ r.count = eq_is (ended r a) r.count (and_second (not (is_idle r)) (ended r a == r.count) e) in
    let upper : ended r b ≤ r.count = most r.count _ in
    let same : ended r b ≡ r.count = omega (arith, all, ended-later r a b le, upper) in
    and_from (not (is_idle r)) (ended r b == r.count) (rw on refl) (eq_from (ended r b) r.count same)

not_running : (idle all : Bool) → (not idle && all) ≡ true → (not idle && not all) ≡ false
not_running true all e = refl
not_running false true e = refl
not_running false false e = absurd (cc e)

pub finished_not_running : (r : Round) (now : ℕ) → is_finished r now ≡ true → is_running r now ≡ false
finished_not_running r now e = not_running (is_idle r) (ended r now == r.count) e

aborted_same : (now : ℕ) (a : Converter) → is_running a.round now ≡ false → aborted now a ≡ a
aborted_same now a off = rw off refl

-- a finished round stands while it isn't acknowledged
pub finished-round : (b : Converters) (u : ℕ) (x : Access) → HasUnit b u → is_finished (round_at b u) b.time ≡ true → LeavesFinished u x
    → round_at (after b x) u ≡ round_at b u
finished-round b u (accesses.Reads (ConverterAbort k)) h e left =
    with_seen (λ a. a.round) b k u (aborted b.time (unit_at b k)) h
    (λ q. ap (λ (a : Converter). a.round) (aborted_same b.time (unit_at b k) (finished_not_running (round_at b k) b.time (rw q e)))) (same_or_other u k)
finished-round b u (accesses.Reads _) h e left = refl
finished-round b u (accesses.Writes (ConverterList k place) value) h e left =
    with_seen (λ a. a.round) b k u (listed place value (unit_at b k)) h (λ _. refl) (same_or_other u k)
finished-round b u (accesses.Writes (ConverterGo k) value) h e left =
    with_seen (λ a. a.round) b k u (gone b.levels value b.time (unit_at b k)) h
    (λ q. ap (λ (a : Converter). a.round) (gone-busy b.levels value b.time (unit_at b k) (finished_on b.time (round_at b k) (rw q e)))) (same_or_other u k)
finished-round b u (accesses.Writes (ConverterAck k) value) h e left =
    with_seen (λ a. a.round) b k u (acknowledged b.time (unit_at b k)) h (λ q. absurd (left q)) (same_or_other u k)
finished-round b u (accesses.Writes _ value) h e left = refl
finished-round b u (accesses.Sets input value) h e left = ap (λ (a : Converter). a.round) (unit_at-analog b input value u h)
finished-round b u (accesses.Pulses input) h e left = either_seen (λ b'. round_at b' u) _ (record b { pulses = _ }) b refl
finished-round b u (accesses.Passes n) h e left = refl

pub finished-left : (b : Converters) (u : ℕ) (xs : List Access) → HasUnit b u → is_finished (round_at b u) b.time ≡ true
    → AllByRecursion (LeavesFinished u) xs → is_finished (round_at (after_all b xs) u) (after_all b xs).time ≡ true
finished-left b u [] h e left = e
finished-left b u (x ∷ xs) h e left =
    let stays : round_at (after b x) u ≡ round_at b u = finished-round b u x h e left.0 in
    let e' : is_finished (round_at (after b x) u) (after b x).time ≡ true =
    ap (λ r. is_finished r (after b x).time) stays ∙ finished-later (round_at b u) b.time (after b x).time (time-after b x) e in
    finished-left (after b x) u xs (has_unit-after b u x h) e' left.1

-- ---- flags

low_flag : (x y : Bool) (pulses k : ℕ) → k < 28 → has_bit (bit_of x * 2 ^ 24 + bit_of y * 2 ^ 25 + pulses * 2 ^ 28) k ≡ has_bit (bit_of x * 2 ^ 24 + bit_of y * 2 ^ 25) k
low_flag x y pulses k lt =
    ap (λ n. has_bit n k) (add_comm (bit_of x * 2 ^ 24 + bit_of y * 2 ^ 25) (pulses * 2 ^ 28))
    ∙ ap (λ n. n == 1) (bit_at_cat_low pulses 28 (bit_of x * 2 ^ 24 + bit_of y * 2 ^ 25) k lt)

small : (x y : Bool) → bit_of x * 2 ^ 24 + bit_of y * 2 ^ 25 < 2 ^ 28
small true true = omega arith
small true false = omega arith
small false true = omega arith
small false false = omega arith

first_is : (x y : Bool) → has_bit (bit_of x * 2 ^ 24 + bit_of y * 2 ^ 25) 24 ≡ x
first_is true true = refl
first_is true false = refl
first_is false true = refl
first_is false false = refl

second_is : (x y : Bool) → has_bit (bit_of x * 2 ^ 24 + bit_of y * 2 ^ 25) 25 ≡ y
second_is true true = refl
second_is true false = refl
second_is false true = refl
second_is false false = refl

back : (k : ℕ) → 28 + k - 28 ≡ k
back k = omega arith

pub flag-first : (b : Converters) → has_bit (flags_of b) 24 ≡ is_finished (round_at b 0) b.time
flag-first b =
    let x = is_finished (round_at b 0) b.time in
    let y = is_finished (round_at b 1) b.time in
    low_flag x y b.pulses 24 (omega arith) ∙ first_is x y

pub flag-second : (b : Converters) → has_bit (flags_of b) 25 ≡ is_finished (round_at b 1) b.time
flag-second b =
    let x = is_finished (round_at b 0) b.time in
    let y = is_finished (round_at b 1) b.time in
    low_flag x y b.pulses 25 (omega arith) ∙ second_is x y

pub flag-pulse : (b : Converters) (k : ℕ) → has_bit (flags_of b) (28 + k) ≡ has_bit b.pulses k
flag-pulse b k =
    let x = is_finished (round_at b 0) b.time in
    let y = is_finished (round_at b 1) b.time in
    ap (λ n. has_bit n (28 + k)) (add_comm (bit_of x * 2 ^ 24 + bit_of y * 2 ^ 25) (b.pulses * 2 ^ 28))
    ∙ ap (λ n. n == 1) (bit_at_cat_high b.pulses 28 (bit_of x * 2 ^ 24 + bit_of y * 2 ^ 25) (28 + k) (small x y) (omega arith))
    ∙ ap (has_bit b.pulses) (back k)

-- ---- trigger inputs

below_four : (k : ℕ) → k < 4 → nat_lt k 4 ≡ true
below_four k lt = grind (arith, nat_tests)

pub pulse-gated : (b : Converters) (k : ℕ) → k < 4 → has_bit b.gates k ≡ true → has_bit (after_pulse b k).pulses k ≡ true
pulse-gated b k lt on =
    rw (below_four k lt, on) (has_bit-or b.pulses (2 ^ k) k ∙ rw (has_bit-pow_same k) (or_true (has_bit b.pulses k)))

pub pulse-ignored : (b : Converters) (k : ℕ) → has_bit b.gates k ≡ false → after_pulse b k ≡ b
pulse-ignored b k off = rw (off, and_false (nat_lt k 4)) refl
