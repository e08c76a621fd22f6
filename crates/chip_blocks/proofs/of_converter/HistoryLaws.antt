-- What a unit's round and its results are after a history.
use Rattle.std.proofs.Common.{◌≡◌, ℕ, ◌+◌, ◌-◌, ◌*◌, ◌/◌, ◌<◌, ◌≤◌, ◌≢◌, min, Bool, true, false, not, ◌&&◌, ◌==◌, nat_lt, List, [], ◌∷◌, length, get_or, refl, sym, ◌∙◌, ap, arith, length-set, get_or-set_same, get_or-set_other, ◌⊎◌, inl, inr, Option, Some, None}
use Rattle.std.specs.Prelude.{if◌then◌else◌, is_some, unwrap_or}
use Rattle.std.specs.List.{AllByRecursion}
use Rattle.std.proofs.lemmas.Bool.Decides.{nat_tests}
use Rattle.std.proofs.lemmas.List.{get_or-map, length-map}
use Rattle.std.proofs.lemmas.List.FromFn.{get_or-map-range_with_len}
use Rattle.mcal_base.specs.facts.Numbers.{same_or_other}
use Rattle.mcal_base.specs.declared.register.Reg.{Reg}
use Rattle.mcal_base.specs.declared.register.Reg.TheVariants.{ConverterList, ConverterGo, ConverterAbort, ConverterAck, TriggerSet, TriggerClear, TriggerFlags}
use Rattle.chip_blocks.specs.converter.Rounds.{Round, ended, has_ended, is_idle, is_finished, is_running, input_of, over}
use Rattle.chip_blocks.specs.converter.Converters.{Converters, level_at, result, settled, unused, unit_at, with_unit, gone, listed, aborted, acknowledged, after_read, after_write, after_analog, after_pulse, ticked}
use Rattle.chip_blocks.specs.converter.Accesses.{Access, after, after_all, LeavesRound, LeavesResults, round_at, ends_at, HasUnit, Converts}
use Rattle.chip_blocks.specs.converter.Accesses as accesses
use Rattle.chip_blocks.specs.declared.converter.converter.Converter.{Converter}
use Rattle.chip_blocks.specs.declared.converter.converter.Levels.{Levels}

-- ---- a unit after a change

pub unit_at-with_unit_same : (b : Converters) (u : ℕ) (a : Converter) → HasUnit b u → unit_at (with_unit b u a) u ≡ a
unit_at-with_unit_same b u a h = let within : u < length b.units = omega (arith, h.all, h.within) in get_or-set_same b.units u a unused within

pub unit_at-with_unit_other : (b : Converters) (k u : ℕ) (a : Converter) → u ≢ k → unit_at (with_unit b k a) u ≡ unit_at b u
unit_at-with_unit_other b k u a ne = get_or-set_other b.units k u a unused ne

pub unit_at-analog : (b : Converters) (input value u : ℕ) → HasUnit b u → unit_at (after_analog b input value) u ≡ settled b.levels b.time (unit_at b u)
unit_at-analog b input value u h =
    let within : u < length b.units = omega (arith, h.all, h.within) in
    get_or-map (settled b.levels b.time) b.units u unused unused within

-- ---- rounds by times

open_until : (closed : Option ℕ) (now start count : ℕ) → is_some closed ≡ false
    → min count ((min now (unwrap_or closed now) - start) / 4) ≡ min count ((now - start) / 4)
open_until None now start count on = let same : min now now ≡ now = omega arith in rw same refl
open_until (Some t) now start count on = absurd (cc on)

pub ended-open : (r : Round) (now : ℕ) → is_idle r ≡ false → ended r now ≡ min r.count ((now - r.start) / 4)
ended-open r now on = open_until r.closed now r.start r.count on

not_yet : (count now closed start i : ℕ) → now < start + 4 * (i + 1) → min count ((min now closed - start) / 4) ≤ i
not_yet count now closed start i early = omega arith

pub has_ended-not_yet : (r : Round) (i now : ℕ) → now < ends_at r i → has_ended r i now ≡ false
has_ended-not_yet r i now early = let few : ended r now ≤ i = not_yet r.count now (unwrap_or r.closed now) r.start i early in grind (arith, nat_tests)

pub has_ended-open : (r : Round) (i now : ℕ) → is_idle r ≡ false → i < r.count → ends_at r i ≤ now → has_ended r i now ≡ true
has_ended-open r i now on lt late =
    let is : ended r now ≡ min r.count ((now - r.start) / 4) = ended-open r now on in
    let more : i < ended r now = omega (arith, is) in grind (arith, nat_tests)

-- what has ended stays so
later : (closed : Option ℕ) (a b start count : ℕ) → a ≤ b
    → min count ((min a (unwrap_or closed a) - start) / 4) ≤ min count ((min b (unwrap_or closed b) - start) / 4)
later None a b start count le = omega arith
later (Some t) a b start count le = omega arith

pub ended-later : (r : Round) (a b : ℕ) → a ≤ b → ended r a ≤ ended r b
ended-later r a b le = later r.closed a b r.start r.count le

-- a round that is over now had as many inputs ended at every time up to now
pub ended-over : (r : Round) (now time : ℕ) → is_idle r ≡ false → time ≤ now → ended (over now r) time ≡ ended r time
ended-over r now time on le =
    let same : min time now ≡ time = omega arith in
    ap (λ t. min r.count ((t - r.start) / 4)) same ∙ sym (ended-open r time on)

-- ---- what an access leaves of the block

-- a choice whose sides look the same
pub either_seen : {X A : Type 0} (see : X → A) (q : Bool) (x y : X) → see x ≡ see y → see (if q then x else y) ≡ see y
either_seen see true x y e = e
either_seen see false x y e = refl

-- the number of units, the levels and the time
abbrev outline : Converters → ℕ × Levels × ℕ
outline b = (length b.units, b.levels, b.time)

outline-with_unit : (b : Converters) (k : ℕ) (a : Converter) → outline (with_unit b k a) ≡ outline b
outline-with_unit b k a = ap (λ n. (n, b.levels, b.time)) (length-set b.units k a)

pub outline-after_read : (b : Converters) (r : Reg) → outline (after_read b r) ≡ outline b
outline-after_read b (ConverterAbort k) = outline-with_unit b k (aborted b.time (unit_at b k))
outline-after_read b _ = refl

pub outline-after_write : (b : Converters) (r : Reg) (value : ℕ) → outline (after_write b r value) ≡ outline b
outline-after_write b (ConverterList k place) value = outline-with_unit b k (listed place value (unit_at b k))
outline-after_write b (ConverterGo k) value = outline-with_unit b k (gone b.levels value b.time (unit_at b k))
outline-after_write b (ConverterAck k) value = outline-with_unit b k (acknowledged b.time (unit_at b k))
outline-after_write b TriggerSet value = refl
outline-after_write b TriggerClear value = refl
outline-after_write b TriggerFlags value = refl
outline-after_write b _ value = refl

pub outline-after_pulse : (b : Converters) (input : ℕ) → outline (after_pulse b input) ≡ outline b
outline-after_pulse b input = either_seen outline _ (record b { pulses = _ }) b refl

-- the units stay, and time doesn't go back
has_unit-outline : (b b' : Converters) (u : ℕ) → outline b' ≡ outline b → HasUnit b u → HasUnit b' u
has_unit-outline b b' u e h = record {
  all = ap (λ (s : ℕ × Levels × ℕ). s.0) e ∙ h.all;
  within = h.within;
  past = let l : b'.levels ≡ b.levels = ap (λ (s : ℕ × Levels × ℕ). s.1) e in
      let t : b'.time ≡ b.time = ap (λ (s : ℕ × Levels × ℕ). s.2) e in
      rw (l, t) h.past;
}

pub has_unit-after : (b : Converters) (u : ℕ) (x : Access) → HasUnit b u → HasUnit (after b x) u
has_unit-after b u (accesses.Reads r) h = has_unit-outline b (after_read b r) u (outline-after_read b r) h
has_unit-after b u (accesses.Writes r value) h = has_unit-outline b (after_write b r value) u (outline-after_write b r value) h
has_unit-after b u (accesses.Sets input value) h =
    record { all = length-map b.units (settled b.levels b.time) ∙ h.all; within = h.within; past = omega arith }
has_unit-after b u (accesses.Pulses input) h = has_unit-outline b (after_pulse b input) u (outline-after_pulse b input) h
has_unit-after b u (accesses.Passes n) h = record { all = h.all; within = h.within; past = omega (arith, h.past) }

pub time-after : (b : Converters) (x : Access) → b.time ≤ (after b x).time
time-after b (accesses.Reads r) = rw (ap (λ (s : ℕ × Levels × ℕ). s.2) (outline-after_read b r)) (omega arith)
time-after b (accesses.Writes r value) = rw (ap (λ (s : ℕ × Levels × ℕ). s.2) (outline-after_write b r value)) (omega arith)
time-after b (accesses.Sets input value) = omega arith
time-after b (accesses.Pulses input) = rw (ap (λ (s : ℕ × Levels × ℕ). s.2) (outline-after_pulse b input)) (omega arith)
time-after b (accesses.Passes n) = omega arith

pub time-after_all : (b : Converters) (xs : List Access) → b.time ≤ (after_all b xs).time
time-after_all b [] = omega arith
time-after_all b (x ∷ xs) = omega (arith, time-after b x, time-after_all (after b x) xs)

-- ---- what an access leaves of a unit

-- a unit that another change leaves, seen through a function
pub with_seen : {A : Type 0} (see : Converter → A) (b : Converters) (k u : ℕ) (a : Converter) → HasUnit b u
    → (k ≡ u → see a ≡ see (unit_at b k)) → (u ≡ k) ⊎ (u ≢ k) → see (unit_at (with_unit b k a) u) ≡ see (unit_at b u)
with_seen see b k u a h e (inl at) =
    rw (← at) (ap see (unit_at-with_unit_same b u a h) ∙ rw (← at) at (e (sym at)))
with_seen see b k u a h e (inr ne) = ap see (unit_at-with_unit_other b k u a ne)

-- a start does nothing where the unit isn't idle
pub gone-busy : (l : Levels) (count now : ℕ) (a : Converter) → is_idle a.round ≡ false → gone l count now a ≡ a
gone-busy l count now a on = rw on refl

-- a round that isn't over stands while it is neither aborted nor acknowledged
pub round-left : (b : Converters) (u : ℕ) (x : Access) → HasUnit b u → is_idle (round_at b u) ≡ false → LeavesRound u x
    → round_at (after b x) u ≡ round_at b u
round-left b u (accesses.Reads (ConverterAbort k)) h on left =
    with_seen (λ a. a.round) b k u (aborted b.time (unit_at b k)) h (λ e. absurd (left e)) (same_or_other u k)
round-left b u (accesses.Reads _) h on left = refl
round-left b u (accesses.Writes (ConverterList k place) value) h on left =
    with_seen (λ a. a.round) b k u (listed place value (unit_at b k)) h (λ _. refl) (same_or_other u k)
round-left b u (accesses.Writes (ConverterGo k) value) h on left =
    with_seen (λ a. a.round) b k u (gone b.levels value b.time (unit_at b k)) h
    (λ e. ap (λ (a : Converter). a.round) (gone-busy b.levels value b.time (unit_at b k) (rw e on))) (same_or_other u k)
round-left b u (accesses.Writes (ConverterAck k) value) h on left =
    with_seen (λ a. a.round) b k u (acknowledged b.time (unit_at b k)) h (λ e. absurd (left e)) (same_or_other u k)
round-left b u (accesses.Writes _ value) h on left = refl
round-left b u (accesses.Sets input value) h on left = ap (λ (a : Converter). a.round) (unit_at-analog b input value u h)
round-left b u (accesses.Pulses input) h on left = either_seen (λ b'. round_at b' u) _ (record b { pulses = _ }) b refl
round-left b u (accesses.Passes n) h on left = refl

pub round-left_all : (b : Converters) (u : ℕ) (xs : List Access) → HasUnit b u → is_idle (round_at b u) ≡ false
    → AllByRecursion (LeavesRound u) xs → round_at (after_all b xs) u ≡ round_at b u
round-left_all b u [] h on left = refl
round-left_all b u (x ∷ xs) h on left =
    let stays : round_at (after b x) u ≡ round_at b u = round-left b u x h on left.0 in
    round-left_all (after b x) u xs (has_unit-after b u x h) (ap is_idle stays ∙ on) left.1 ∙ stays

pub has_unit-after_all : (b : Converters) (u : ℕ) (xs : List Access) → HasUnit b u → HasUnit (after_all b xs) u
has_unit-after_all b u [] h = h
has_unit-after_all b u (x ∷ xs) h = has_unit-after_all (after b x) u xs (has_unit-after b u x h)

-- ---- what leaves a result alone

-- a result of a block's unit
abbrev pub result_at : Converters → (u i : ℕ) → ℕ
result_at b u i = result b.levels b.time (unit_at b u) i

-- an input of a unit's round has ended
abbrev pub ended_at : Converters → (u i : ℕ) → Bool
ended_at b u i = has_ended (round_at b u) i b.time

-- where a unit's change leaves what its inputs have ended, it leaves its results
chosen : (old new since : Bool) (x y : ℕ) → new ≡ old → (if new && not since then x else y) ≡ (if old && not since then x else y)
chosen old new since x y e = rw e refl

not_both : (q : Bool) → (q && not q) ≡ false
not_both true = refl
not_both false = refl

-- a round that is over from now on
pub result-over : (l : Levels) (now : ℕ) (a : Converter) (i : ℕ) → is_idle a.round ≡ false → l.since ≤ now
    → result l now (record a { round = over now a.round }) i ≡ result l now a i
result-over l now a i on past =
    let le : now ≤ now = omega arith in
    rw (ended-over a.round now now on le, ended-over a.round now l.since on past) refl

busy_of : (idle other : Bool) → (not idle && other) ≡ true → idle ≡ false
busy_of true other e = absurd (cc e)
busy_of false other e = refl

-- what an abort and an acknowledgement have in common: a round that is not over may be over from now on
result-close_if : (l : Levels) (now i : ℕ) (a : Converter) (q : Bool) → (q ≡ true → is_idle a.round ≡ false) → l.since ≤ now
    → result l now (if q then record a { round = over now a.round } else a) i ≡ result l now a i
result-close_if l now i a true on past = result-over l now a i (on refl) past
result-close_if l now i a false on past = refl

ended-close_if : (now : ℕ) (a : Converter) (q : Bool) → (q ≡ true → is_idle a.round ≡ false)
    → ended (if q then record a { round = over now a.round } else a).round now ≡ ended a.round now
ended-close_if now a true on = let le : now ≤ now = omega arith in ended-over a.round now now (on refl) le
ended-close_if now a false on = refl

start-close_if : (now : ℕ) (a : Converter) (q : Bool) → (if q then record a { round = over now a.round } else a).round.start ≡ a.round.start
start-close_if now a true = refl
start-close_if now a false = refl

running_on : (now : ℕ) (r : Round) → is_running r now ≡ true → is_idle r ≡ false
running_on now r e = busy_of (is_idle r) (not (ended r now == r.count)) e

pub finished_on : (now : ℕ) (r : Round) → is_finished r now ≡ true → is_idle r ≡ false
finished_on now r e = busy_of (is_idle r) (ended r now == r.count) e

-- a result that is kept is the one that is read
pub result-settled : (l l' : Levels) (now i : ℕ) (a : Converter) → i < 32 → l'.since ≡ now → result l' now (settled l now a) i ≡ result l now a i
result-settled l l' now i a lt at =
    rw (at, not_both (has_ended a.round i now)) (get_or-map-range_with_len (λ k. result l now a k) 0 32 i i 0 lt (omega arith))

-- what an access other than the passing of time leaves of a unit: its results, what has ended, and the start
pub record Stays (b b' : Converters) (u i : ℕ) : Type 0 where
  pub start : (round_at b' u).start ≡ (round_at b u).start
  pub ends : ended (round_at b' u) b'.time ≡ ended (round_at b u) b.time
  pub result : result_at b' u i ≡ result_at b u i

stays_seen : (b : Converters) (k u i : ℕ) (a : Converter) → HasUnit b u
    → (k ≡ u → (a.round.start ≡ (unit_at b k).round.start) × (ended a.round b.time ≡ ended (unit_at b k).round b.time) × (result b.levels b.time a i ≡ result b.levels b.time (unit_at b k) i))
    → Stays b (with_unit b k a) u i
stays_seen b k u i a h e = record {
  start = with_seen (λ x. x.round.start) b k u a h (λ q. (e q).0) (same_or_other u k);
  ends = with_seen (λ x. ended x.round b.time) b k u a h (λ q. (e q).1) (same_or_other u k);
  result = with_seen (λ x. result b.levels b.time x i) b k u a h (λ q. (e q).2) (same_or_other u k);
}

stays_same : (b : Converters) (u i : ℕ) → Stays b b u i
stays_same b u i = record { start = refl; ends = refl; result = refl }

stays_pulse : (q : Bool) (b b' : Converters) (u i : ℕ) → Stays b b' u i → Stays b (if q then b' else b) u i
stays_pulse true b b' u i s = s
stays_pulse false b b' u i s = stays_same b u i

pub stays-read : (b : Converters) (u i : ℕ) (r : Reg) → HasUnit b u → Stays b (after_read b r) u i
stays-read b u i (ConverterAbort k) h =
    stays_seen b k u i (aborted b.time (unit_at b k)) h
    (λ _. let a : Converter = unit_at b k in
    let on : is_running a.round b.time ≡ true → is_idle a.round ≡ false = running_on b.time a.round in (
      start-close_if b.time a (is_running a.round b.time),
      ended-close_if b.time a (is_running a.round b.time) on,
      result-close_if b.levels b.time i a (is_running a.round b.time) on h.past,
    ))
stays-read b u i _ h = stays_same b u i

pub stays-write : (b : Converters) (u i : ℕ) (r : Reg) (value : ℕ) → HasUnit b u → LeavesResults u (accesses.Writes r value) → Stays b (after_write b r value) u i
stays-write b u i (ConverterList k place) value h left =
    stays_seen b k u i (listed place value (unit_at b k)) h (λ _. (refl, refl, refl))
stays-write b u i (ConverterGo k) value h left =
    stays_seen b k u i (gone b.levels value b.time (unit_at b k)) h (λ e. absurd (left e))
stays-write b u i (ConverterAck k) value h left =
    stays_seen b k u i (acknowledged b.time (unit_at b k)) h
    (λ _. let a : Converter = unit_at b k in
    let on : is_finished a.round b.time ≡ true → is_idle a.round ≡ false = finished_on b.time a.round in (
      start-close_if b.time a (is_finished a.round b.time),
      ended-close_if b.time a (is_finished a.round b.time) on,
      result-close_if b.levels b.time i a (is_finished a.round b.time) on h.past,
    ))
stays-write b u i TriggerSet value h left = record { start = refl; ends = refl; result = refl }
stays-write b u i TriggerClear value h left = record { start = refl; ends = refl; result = refl }
stays-write b u i TriggerFlags value h left = record { start = refl; ends = refl; result = refl }
stays-write b u i _ value h left = stays_same b u i

pub stays-analog : (b : Converters) (u i input value : ℕ) → HasUnit b u → i < 32 → Stays b (after_analog b input value) u i
stays-analog b u i input value h lt =
    let b' : Converters = after_analog b input value in
    let is : unit_at b' u ≡ settled b.levels b.time (unit_at b u) = unit_at-analog b input value u h in
    record {
      start = ap (λ (a : Converter). a.round.start) is;
      ends = ap (λ (a : Converter). ended a.round b.time) is;
      result = ap (λ (a : Converter). result b'.levels b.time a i) is ∙ result-settled b.levels b'.levels b.time i (unit_at b u) lt refl;
    }

-- the passing of time, where it leaves what has ended
passes-result : (b : Converters) (u i n : ℕ) → ended_at (ticked b n) u i ≡ ended_at b u i → result_at (ticked b n) u i ≡ result_at b u i
passes-result b u i n e =
    chosen (ended_at b u i) (ended_at (ticked b n) u i) (has_ended (round_at b u) i b.levels.since) (level_at b.levels (input_of (round_at b u) i)) (get_or (unit_at b u).results i 0) e

-- what every access leaves
pub record Goes (b b' : Converters) (u i : ℕ) : Type 0 where
  pub start : (round_at b' u).start ≡ (round_at b u).start
  pub ends : ended (round_at b u) b.time ≤ ended (round_at b' u) b'.time
  pub result : ended_at b' u i ≡ ended_at b u i → result_at b' u i ≡ result_at b u i

goes_stays : (b b' : Converters) (u i : ℕ) → Stays b b' u i → Goes b b' u i
goes_stays b b' u i s = record { start = s.start; ends = let e : ended (round_at b' u) b'.time ≡ ended (round_at b u) b.time = s.ends in omega (arith, e); result = λ _. s.result }

pub goes : (b : Converters) (u i : ℕ) (x : Access) → HasUnit b u → i < 32 → LeavesResults u x → Goes b (after b x) u i
goes b u i (accesses.Reads r) h lt left = goes_stays b (after_read b r) u i (stays-read b u i r h)
goes b u i (accesses.Writes r value) h lt left = goes_stays b (after_write b r value) u i (stays-write b u i r value h left)
goes b u i (accesses.Sets input value) h lt left = goes_stays b (after_analog b input value) u i (stays-analog b u i input value h lt)
goes b u i (accesses.Pulses input) h lt left =
    goes_stays b (after_pulse b input) u i (stays_pulse _ b (record b { pulses = _ }) u i (record { start = refl; ends = refl; result = refl }))
goes b u i (accesses.Passes n) h lt left = record {
  start = refl;
  ends = ended-later (round_at b u) b.time (b.time + n) (omega arith);
  result = passes-result b u i n;
}

ended_true : (i a c : ℕ) → a ≤ c → nat_lt i a ≡ true → nat_lt i c ≡ true
ended_true i a c le e = grind (arith, nat_tests)

-- a result whose input has ended stays
pub result-stays : (b : Converters) (u i : ℕ) (xs : List Access) → HasUnit b u → i < 32 → ended_at b u i ≡ true
    → AllByRecursion (LeavesResults u) xs → result_at (after_all b xs) u i ≡ result_at b u i
result-stays b u i [] h lt e left = refl
result-stays b u i (x ∷ xs) h lt e left =
    let g : Goes b (after b x) u i = goes b u i x h lt left.0 in
    let e' : ended_at (after b x) u i ≡ true = ended_true i (ended (round_at b u) b.time) (ended (round_at (after b x) u) (after b x).time) g.ends e in
    result-stays (after b x) u i xs (has_unit-after b u x h) lt e' left.1 ∙ g.result (e' ∙ sym e)

-- a result whose input hasn't ended stays
pub result-waits : (b : Converters) (u i : ℕ) (xs : List Access) → HasUnit b u → i < 32
    → AllByRecursion (LeavesResults u) xs → (after_all b xs).time < ends_at (round_at b u) i → result_at (after_all b xs) u i ≡ result_at b u i
result-waits b u i [] h lt left early = refl
result-waits b u i (x ∷ xs) h lt left early =
    let g : Goes b (after b x) u i = goes b u i x h lt left.0 in
    let early' : (after_all (after b x) xs).time < ends_at (round_at (after b x) u) i = omega (arith, g.start) in
    let none : ended_at b u i ≡ false = has_ended-not_yet (round_at b u) i b.time (omega (arith, time-after b x, time-after_all (after b x) xs)) in
    let none' : ended_at (after b x) u i ≡ false =
    has_ended-not_yet (round_at (after b x) u) i (after b x).time (omega (arith, g.start, time-after_all (after b x) xs)) in
    result-waits (after b x) u i xs (has_unit-after b u x h) lt left.1 early' ∙ g.result (none' ∙ sym none)

-- ---- the result of an input

pub result-when_ended : (b : Converters) (u i n : ℕ) (before xs : List Access) → Converts b u i
    → AllByRecursion (LeavesRound u) before → AllByRecursion (LeavesResults u) xs
    → (after_all b before).time < ends_at (round_at b u) i → ends_at (round_at b u) i ≤ (after_all b before).time + n
    → result_at (after_all (ticked (after_all b before) n) xs) u i ≡ level_at (after_all b before).levels (input_of (round_at b u) i)
result-when_ended b u i n before xs h left left' early late =
    let c : Converters = after_all b before in
    let r : Round = round_at b u in
    let is : round_at c u ≡ r = round-left_all b u before h.there h.on left in
    let there : HasUnit c u = has_unit-after_all b u before h.there in
    let later_on : HasUnit (ticked c n) u = has_unit-after c u (accesses.Passes n) there in
    let few : i < 32 = omega (arith, h.listed, h.few) in
    let ends : has_ended r i (c.time + n) ≡ true = has_ended-open r i (c.time + n) h.on h.listed late in
    let fresh : has_ended r i c.levels.since ≡ false = has_ended-not_yet r i c.levels.since (omega (arith, there.past)) in
    let ends' : ended_at (ticked c n) u i ≡ true = ap (λ q. has_ended q i (c.time + n)) is ∙ ends in
    let fresh' : has_ended (round_at c u) i c.levels.since ≡ false = ap (λ q. has_ended q i c.levels.since) is ∙ fresh in
    result-stays (ticked c n) u i xs later_on few ends' left'
    ∙ rw (ends', fresh') (ap (λ q. level_at c.levels (input_of q i)) is)
