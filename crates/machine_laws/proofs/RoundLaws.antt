-- Rounds of a converter unit over histories.
use Rattle.std.proofs.Common.{◌≡◌, ℕ, ◌+◌, ◌-◌, ◌*◌, ◌/◌, ◌%◌, ◌^◌, ◌<◌, ◌≤◌, ◌==◌, min, Bool, true, false, not, ◌&&◌, nat_le, List, [], ◌∷◌, length, refl, sym, ◌∙◌, ap, arith, get_or-set_same, get_or-set_other}
use Rattle.std.specs.Prelude.{if◌then◌else◌, slice_index}
use Rattle.std.specs.List.{AllByRecursion}
use Rattle.std.proofs.lemmas.Bool.Decides.{nat_tests}
use Rattle.mcal_base.specs.facts.Numbers.{eq_from, same_or_other}
use Rattle.mcal_base.specs.declared.register.Reg.TheVariants.{ConverterList, ConverterGo, ConverterState, ConverterDone, ConverterAbort, ConverterAck}
use Rattle.chip_blocks.specs.converter.Rounds.{Round, opened, ended, has_ended, is_idle, is_finished, is_running, state, input_of, over}
use Rattle.chip_blocks.specs.converter.Converters.{Converters, unit_at, gone, listed, aborted, acknowledged, read_of, after_read, after_write}
use Rattle.chip_blocks.specs.converter.Accesses.{Access, after, after_all, LeavesRound, LeavesResults, round_at, ends_at, HasUnit}
use Rattle.chip_blocks.specs.converter.Accesses as accesses
use Rattle.chip_blocks.specs.declared.converter.converter.Converter.{Converter}
use Rattle.chip_blocks.proofs.of_converter.HistoryLaws.{unit_at-with_unit_same, unit_at-analog, either_seen, with_seen, ended-open, has_unit-after, has_unit-after_all, time-after_all, round-left_all, result_at, stays-read, goes}
use Rattle.chip_blocks.proofs.of_converter.StateLaws.{unit_at-begun, result-begun, result-until_ended}
use Rattle.machine_laws.specs.converters.Histories.{LeavesList}

-- ---- the state

abbrev state_of : (idle whole : Bool) → ℕ
state_of idle whole = if idle then 0 else (if whole then 2 else 1)

idle_of : (idle whole : Bool) → state_of idle whole ≡ 0 → idle ≡ true
idle_of true whole e = refl
idle_of false true e = absurd (cc e)
idle_of false false e = absurd (cc e)

runs_of : (idle whole : Bool) → state_of idle whole ≡ 1 → (idle ≡ false) × (whole ≡ false)
runs_of true whole e = absurd (cc e)
runs_of false true e = absurd (cc e)
runs_of false false e = (refl, refl)

whole_of : (idle whole : Bool) → state_of idle whole ≡ 2 → (idle ≡ false) × (whole ≡ true)
whole_of true whole e = absurd (cc e)
whole_of false true e = (refl, refl)
whole_of false false e = absurd (cc e)

module _ (b : Converters) (u : ℕ) where
  pub idle_at : read_of b (ConverterState u) ≡ 0 → is_idle (round_at b u) ≡ true
  idle_at e = idle_of (is_idle (round_at b u)) (ended (round_at b u) b.time == (round_at b u).count) e

  pub running_at : read_of b (ConverterState u) ≡ 1 → is_running (round_at b u) b.time ≡ true
  running_at e =
      let parts = runs_of (is_idle (round_at b u)) (ended (round_at b u) b.time == (round_at b u).count) e in
      ap (λ q. not q && not (ended (round_at b u) b.time == (round_at b u).count)) parts.0 ∙ ap not parts.1

  pub not_idle : read_of b (ConverterState u) ≡ 1 → is_idle (round_at b u) ≡ false
  not_idle e = (runs_of (is_idle (round_at b u)) (ended (round_at b u) b.time == (round_at b u).count) e).0

  pub rests_at : read_of b (ConverterState u) ≡ 0 → is_running (round_at b u) b.time ≡ false
  rests_at e = ap (λ q. not q && not (ended (round_at b u) b.time == (round_at b u).count)) (idle_at e)

  pub whole_at : read_of b (ConverterState u) ≡ 2 → is_running (round_at b u) b.time ≡ false
  whole_at e =
      let parts = whole_of (is_idle (round_at b u)) (ended (round_at b u) b.time == (round_at b u).count) e in
      ap (λ q. not q && not (ended (round_at b u) b.time == (round_at b u).count)) parts.0 ∙ ap not parts.1

-- ---- the list registers

list_at : Converter → ℕ → ℕ
list_at a p = slice_index a.list p

gone_list : (q : Bool) (a : Converter) (c : Converter) (p : ℕ) → c.list ≡ a.list → slice_index (if q then c else a).list p ≡ slice_index a.list p
gone_list true a c p e = ap (λ l. slice_index l p) e
gone_list false a c p e = refl

list_left : (b : Converters) (u p : ℕ) (x : Access) → HasUnit b u → LeavesList u p x → slice_index (unit_at (after b x) u).list p ≡ slice_index (unit_at b u).list p
list_left b u p (accesses.Reads (ConverterAbort k)) h left =
    with_seen (λ a. slice_index a.list p) b k u (aborted b.time (unit_at b k)) h (λ _. gone_list (is_running (unit_at b k).round b.time) (unit_at b k) _ p refl) (same_or_other u k)
list_left b u p (accesses.Reads _) h left = refl
list_left b u p (accesses.Writes (ConverterList k q) value) h left =
    with_seen (λ a. slice_index a.list p) b k u (listed q value (unit_at b k)) h (λ e. get_or-set_other (unit_at b k).list q p value 0 (λ at. left e (sym at))) (same_or_other u k)
list_left b u p (accesses.Writes (ConverterGo k) value) h left =
    with_seen (λ a. slice_index a.list p) b k u (gone b.levels value b.time (unit_at b k)) h
    (λ _. gone_list (is_idle (unit_at b k).round && (nat_le 1 value && nat_le value 32)) (unit_at b k) _ p refl) (same_or_other u k)
list_left b u p (accesses.Writes (ConverterAck k) value) h left =
    with_seen (λ a. slice_index a.list p) b k u (acknowledged b.time (unit_at b k)) h (λ _. gone_list (is_finished (unit_at b k).round b.time) (unit_at b k) _ p refl) (same_or_other u k)
list_left b u p (accesses.Writes _ value) h left = refl
list_left b u p (accesses.Sets input value) h left = ap (λ (a : Converter). slice_index a.list p) (unit_at-analog b input value u h)
list_left b u p (accesses.Pulses input) h left = either_seen (λ b'. slice_index (unit_at b' u).list p) _ (record b { pulses = _ }) b refl
list_left b u p (accesses.Passes n) h left = refl

list_all : (b : Converters) (u p : ℕ) (xs : List Access) → HasUnit b u → AllByRecursion (LeavesList u p) xs → slice_index (unit_at (after_all b xs) u).list p ≡ slice_index (unit_at b u).list p
list_all b u p [] h left = refl
list_all b u p (x ∷ xs) h left = list_all (after b x) u p xs (has_unit-after b u x h) left.1 ∙ list_left b u p x h left.0

-- ---- a round from its start on

module _ (b : Converters) (u count : ℕ) (xs : List Access) (h : HasUnit b u) (idle : read_of b (ConverterState u) ≡ 0) (some : 1 ≤ count) (few : count ≤ 32) (left : AllByRecursion (LeavesRound u) xs) where
  abbrev b' : Converters
  b' = after_write b (ConverterGo u) count

  has : HasUnit b' u
  has = has_unit-after b u (accesses.Writes (ConverterGo u) count) h

  begins : round_at b' u ≡ opened b.time count (unit_at b u).list
  begins = ap (λ (a : Converter). a.round) (unit_at-begun b u count h (idle_at b u idle) some few)

  pub goes_on : round_at (after_all b' xs) u ≡ opened b.time count (unit_at b u).list
  goes_on = round-left_all b' u xs has (ap is_idle begins) left ∙ begins

  ends : ended (round_at (after_all b' xs) u) (after_all b' xs).time ≡ min count (((after_all b' xs).time - b.time) / 4)
  ends = ap (λ r. ended r (after_all b' xs).time) goes_on ∙ ended-open (opened b.time count (unit_at b u).list) (after_all b' xs).time refl

  pub counts : (n : ℕ) → n < count → b.time + 4 * n ≤ (after_all b' xs).time → (after_all b' xs).time < b.time + 4 * (n + 1) → read_of (after_all b' xs) (ConverterDone u) ≡ n
  counts n lt late early = omega (arith, ends)

  pub counts_all : b.time + 4 * count ≤ (after_all b' xs).time → read_of (after_all b' xs) (ConverterDone u) ≡ count
  counts_all late = omega (arith, ends)

  state_is : (whole : Bool) → (ended (round_at (after_all b' xs) u) (after_all b' xs).time == count) ≡ whole → read_of (after_all b' xs) (ConverterState u) ≡ (if whole then 2 else 1)
  state_is whole e =
      ap (λ r. if is_idle r then 0 else (if ended (round_at (after_all b' xs) u) (after_all b' xs).time == r.count then 2 else 1)) goes_on
      ∙ ap (λ q. if q then 2 else 1) e

  not_all : (a c : ℕ) → a < c → (a == c) ≡ false
  not_all a c lt = grind (arith, nat_tests)

  pub still_runs : (after_all b' xs).time < b.time + 4 * count → read_of (after_all b' xs) (ConverterState u) ≡ 1
  still_runs early = state_is false (not_all _ count (omega (arith, ends)))

  pub is_whole : b.time + 4 * count ≤ (after_all b' xs).time → read_of (after_all b' xs) (ConverterState u) ≡ 2
  is_whole late = state_is true (eq_from _ count (omega (arith, ends)))

place_of : (p n : ℕ) → n < 4 → ((4 * p + n) / 4 ≡ p) × ((4 * p + n) % 4 ≡ n)
place_of p n lt = (omega arith, omega arith)

pub inputs_listed : (b : Converters) (u p value count n : ℕ) (before xs : List Access) → HasUnit b u → p < length (unit_at b u).list → n < 4 → 1 ≤ count → count ≤ 32
    → AllByRecursion (LeavesList u p) before → AllByRecursion (LeavesRound u) xs
    → read_of (after_all (after_write b (ConverterList u p) value) before) (ConverterState u) ≡ 0
    → input_of (round_at (after_all (after_write (after_all (after_write b (ConverterList u p) value) before) (ConverterGo u) count) xs) u) (4 * p + n) ≡ value / 2 ^ (8 * n) % 256
inputs_listed b u p value count n before xs h there lt some few left left' idle =
    let first : Converters = after_write b (ConverterList u p) value in
    let has = has_unit-after b u (accesses.Writes (ConverterList u p) value) h in
    let c : Converters = after_all first before in
    let written : slice_index (unit_at c u).list p ≡ value =
    list_all first u p before has left
    ∙ (ap (λ (a : Converter). slice_index a.list p) (unit_at-with_unit_same b u (listed p value (unit_at b u)) h) ∙ get_or-set_same (unit_at b u).list p value 0 there) in
    let is = goes_on c u count xs (has_unit-after_all first u before has) idle some few left' in
    let at = place_of p n lt in
    ap (λ r. input_of r (4 * p + n)) is
    ∙ (ap (λ i. slice_index (unit_at c u).list i / 2 ^ (8 * ((4 * p + n) % 4)) % 256) at.0
    ∙ (ap (λ i. slice_index (unit_at c u).list p / 2 ^ (8 * i) % 256) at.1
    ∙ ap (λ v. v / 2 ^ (8 * n) % 256) written))

-- ---- a round that is over

closed_same : (q : Bool) (a c : Converter) → q ≡ false → (if q then c else a).round ≡ a.round
closed_same true a c e = absurd (cc e)
closed_same false a c e = refl

over_left : (b : Converters) (u : ℕ) (x : Access) → HasUnit b u → is_idle (round_at b u) ≡ true → LeavesResults u x → round_at (after b x) u ≡ round_at b u
over_left b u (accesses.Reads (ConverterAbort k)) h idle left =
    with_seen (λ a. a.round) b k u (aborted b.time (unit_at b k)) h
    (λ at. closed_same (is_running (unit_at b k).round b.time) (unit_at b k) _ (ap (λ q. not q && not (ended (round_at b k) b.time == (round_at b k).count)) (ap (λ i. is_idle (round_at b i)) at ∙ idle))) (same_or_other u k)
over_left b u (accesses.Reads _) h idle left = refl
over_left b u (accesses.Writes (ConverterList k p) value) h idle left = with_seen (λ a. a.round) b k u (listed p value (unit_at b k)) h (λ _. refl) (same_or_other u k)
over_left b u (accesses.Writes (ConverterGo k) value) h idle left = with_seen (λ a. a.round) b k u (gone b.levels value b.time (unit_at b k)) h (λ at. absurd (left at)) (same_or_other u k)
over_left b u (accesses.Writes (ConverterAck k) value) h idle left =
    with_seen (λ a. a.round) b k u (acknowledged b.time (unit_at b k)) h
    (λ at. closed_same (is_finished (unit_at b k).round b.time) (unit_at b k) _ (ap (λ q. not q && (ended (round_at b k) b.time == (round_at b k).count)) (ap (λ i. is_idle (round_at b i)) at ∙ idle))) (same_or_other u k)
over_left b u (accesses.Writes _ value) h idle left = refl
over_left b u (accesses.Sets input value) h idle left = ap (λ (a : Converter). a.round) (unit_at-analog b input value u h)
over_left b u (accesses.Pulses input) h idle left = either_seen (λ b'. round_at b' u) _ (record b { pulses = _ }) b refl
over_left b u (accesses.Passes n) h idle left = refl

over_all : (b : Converters) (u : ℕ) (xs : List Access) → HasUnit b u → is_idle (round_at b u) ≡ true → AllByRecursion (LeavesResults u) xs → round_at (after_all b xs) u ≡ round_at b u
over_all b u [] h idle left = refl
over_all b u (x ∷ xs) h idle left =
    let stays : round_at (after b x) u ≡ round_at b u = over_left b u x h idle left.0 in
    over_all (after b x) u xs (has_unit-after b u x h) (ap is_idle stays ∙ idle) left.1 ∙ stays

-- the round of a unit that was aborted while it ran
pub aborted_round : (b : Converters) (u : ℕ) → HasUnit b u → read_of b (ConverterState u) ≡ 1 → round_at (after_read b (ConverterAbort u)) u ≡ over b.time (round_at b u)
aborted_round b u h e =
    ap (λ (a : Converter). a.round) (unit_at-with_unit_same b u (aborted b.time (unit_at b u)) h)
    ∙ ap (λ q. (if q then record (unit_at b u) { round = over b.time (round_at b u) } else unit_at b u).round) (running_at b u e)

pub abort_gives : (b : Converters) (u : ℕ) (q : Bool) → is_running (round_at b u) b.time ≡ q → read_of b (ConverterAbort u) ≡ (if q then 1 else 0)
abort_gives b u q e = ap (λ x. if x then 1 else 0) e

min_later : (t now start count : ℕ) → t ≤ now → min count ((min now t - start) / 4) ≡ min count ((t - start) / 4)
min_later t now start count le = omega arith

module _ (b : Converters) (u : ℕ) (xs : List Access) (h : HasUnit b u) (runs : read_of b (ConverterState u) ≡ 1) (left : AllByRecursion (LeavesResults u) xs) where
  abbrev stop : Converters
  stop = after_read b (ConverterAbort u)

  has_stop : HasUnit stop u
  has_stop = has_unit-after b u (accesses.Reads (ConverterAbort u)) h

  pub over_since : round_at (after_all stop xs) u ≡ over b.time (round_at b u)
  over_since = over_all stop u xs has_stop (ap is_idle (aborted_round b u h runs)) left ∙ aborted_round b u h runs

  pub idle_since : read_of (after_all stop xs) (ConverterState u) ≡ 0
  idle_since = ap (λ r. state r (after_all stop xs).time) over_since

  later : b.time ≤ (after_all stop xs).time
  later = omega (arith, time_stop, time-after_all stop xs)
    where
      time_stop : stop.time ≡ b.time
      time_stop = refl

  pub done_since : read_of (after_all stop xs) (ConverterDone u) ≡ read_of b (ConverterDone u)
  done_since =
      ap (λ r. ended r (after_all stop xs).time) over_since
      ∙ (min_later b.time (after_all stop xs).time (round_at b u).start (round_at b u).count later
      ∙ sym (ended-open (round_at b u) b.time (not_idle b u runs)))

-- ---- results of inputs that never end

module _ (u i : ℕ) (P : Round → Type 0) (none : (r : Round) (now : ℕ) → P r → has_ended r i now ≡ false)
    (step : (b : Converters) (x : Access) → HasUnit b u → LeavesResults u x → P (round_at b u) → P (round_at (after b x) u)) (few : i < 32) where
  pub result_kept : (b : Converters) (xs : List Access) → HasUnit b u → AllByRecursion (LeavesResults u) xs → P (round_at b u) → result_at (after_all b xs) u i ≡ result_at b u i
  result_kept b [] h left p = refl
  result_kept b (x ∷ xs) h left p =
      let next : P (round_at (after b x) u) = step b x h left.0 p in
      result_kept (after b x) xs (has_unit-after b u x h) left.1 next
      ∙ (goes b u i x h few left.0).result (none (round_at (after b x) u) (after b x).time next ∙ sym (none (round_at b u) b.time p))

count_same : (q : Bool) (a c : Converter) → c.round.count ≡ a.round.count → (if q then c else a).round.count ≡ a.round.count
count_same true a c e = e
count_same false a c e = refl

count_left : (b : Converters) (u : ℕ) (x : Access) → HasUnit b u → LeavesResults u x → (round_at (after b x) u).count ≡ (round_at b u).count
count_left b u (accesses.Reads (ConverterAbort k)) h left =
    with_seen (λ a. a.round.count) b k u (aborted b.time (unit_at b k)) h (λ _. count_same (is_running (unit_at b k).round b.time) (unit_at b k) _ refl) (same_or_other u k)
count_left b u (accesses.Reads _) h left = refl
count_left b u (accesses.Writes (ConverterList k p) value) h left = with_seen (λ a. a.round.count) b k u (listed p value (unit_at b k)) h (λ _. refl) (same_or_other u k)
count_left b u (accesses.Writes (ConverterGo k) value) h left = with_seen (λ a. a.round.count) b k u (gone b.levels value b.time (unit_at b k)) h (λ at. absurd (left at)) (same_or_other u k)
count_left b u (accesses.Writes (ConverterAck k) value) h left =
    with_seen (λ a. a.round.count) b k u (acknowledged b.time (unit_at b k)) h (λ _. count_same (is_finished (unit_at b k).round b.time) (unit_at b k) _ refl) (same_or_other u k)
count_left b u (accesses.Writes _ value) h left = refl
count_left b u (accesses.Sets input value) h left = ap (λ (a : Converter). a.round.count) (unit_at-analog b input value u h)
count_left b u (accesses.Pulses input) h left = either_seen (λ b'. (round_at b' u).count) _ (record b { pulses = _ }) b refl
count_left b u (accesses.Passes n) h left = refl

past_none : (i : ℕ) (r : Round) (now : ℕ) → r.count ≤ i → has_ended r i now ≡ false
past_none i r now le = let most : ended r now ≤ r.count = omega arith in grind (arith, nat_tests)

pub result_past : (b : Converters) (u i count : ℕ) (xs : List Access) → HasUnit b u → read_of b (ConverterState u) ≡ 0 → 1 ≤ count → count ≤ 32 → count ≤ i → i < 32 → AllByRecursion (LeavesResults u) xs
    → result_at (after_all (after_write b (ConverterGo u) count) xs) u i ≡ result_at b u i
result_past b u i count xs h idle some few past lt left =
    let b' : Converters = after_write b (ConverterGo u) count in
    let begins : (round_at b' u).count ≡ count = ap (λ (a : Converter). a.round.count) (unit_at-begun b u count h (idle_at b u idle) some few) in
    result_kept u i (λ r. r.count ≤ i) (λ r now p. past_none i r now p) (λ c x has leaves p. omega (arith, p, count_left c u x has leaves)) lt b' xs
    (has_unit-after b u (accesses.Writes (ConverterGo u) count) h) left (omega (arith, begins, past))
    ∙ result-begun b u i count h (idle_at b u idle) some few lt

-- one that was aborted before the input's end
over_none : (i t : ℕ) (r : Round) (now : ℕ) → t < ends_at r i → has_ended (over t r) i now ≡ false
over_none i t r now early = let few : ended (over t r) now ≤ i = at_most r.count now t r.start i early in grind (arith, nat_tests)
  where
    at_most : (count now t start i : ℕ) → t < start + 4 * (i + 1) → min count ((min now t - start) / 4) ≤ i
    at_most count now t start i early = omega arith

start_all : (b : Converters) (u i : ℕ) (xs : List Access) → HasUnit b u → i < 32 → AllByRecursion (LeavesResults u) xs → (round_at (after_all b xs) u).start ≡ (round_at b u).start
start_all b u i [] h lt left = refl
start_all b u i (x ∷ xs) h lt left = start_all (after b x) u i xs (has_unit-after b u x h) lt left.1 ∙ (goes b u i x h lt left.0).start

pub result_aborted : (b : Converters) (u i count : ℕ) (before xs : List Access) → HasUnit b u → read_of b (ConverterState u) ≡ 0 → 1 ≤ count → count ≤ 32 → i < 32
    → AllByRecursion (LeavesResults u) before → AllByRecursion (LeavesResults u) xs
    → (after_all (after_write b (ConverterGo u) count) before).time < b.time + 4 * (i + 1) → read_of (after_all (after_write b (ConverterGo u) count) before) (ConverterState u) ≡ 1
    → result_at (after_all (after_read (after_all (after_write b (ConverterGo u) count) before) (ConverterAbort u)) xs) u i ≡ result_at b u i
result_aborted b u i count before xs h idle some few lt left left' early runs =
    let b' : Converters = after_write b (ConverterGo u) count in
    let has = has_unit-after b u (accesses.Writes (ConverterGo u) count) h in
    let c : Converters = after_all b' before in
    let has_c = has_unit-after_all b' u before has in
    let start : (round_at c u).start ≡ b.time =
    start_all b' u i before has lt left ∙ ap (λ (a : Converter). a.round.start) (unit_at-begun b u count h (idle_at b u idle) some few) in
    let stop : Converters = after_read c (ConverterAbort u) in
    let is : round_at stop u ≡ over c.time (round_at c u) = aborted_round c u has_c runs in
    let soon : c.time < ends_at (round_at c u) i = omega (arith, early, start) in
    result_kept u i (λ r. (is_idle r ≡ true) × ((now : ℕ) → has_ended r i now ≡ false)) (λ r now p. p.1 now)
    (λ e x there leaves p. let same = over_left e u x there p.0 leaves in (ap is_idle same ∙ p.0, λ now. ap (λ r. has_ended r i now) same ∙ p.1 now))
    lt stop xs (has_unit-after c u (accesses.Reads (ConverterAbort u)) has_c) left' (ap is_idle is, λ now. ap (λ r. has_ended r i now) is ∙ over_none i c.time (round_at c u) now soon)
    ∙ ((stays-read c u i (ConverterAbort u) has_c).result
    ∙ result-until_ended b u i count before h (idle_at b u idle) some few lt left early)
