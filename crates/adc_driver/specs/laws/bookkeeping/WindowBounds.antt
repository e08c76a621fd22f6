-- What each window decides costs no more than was counted for it.
-- From adc_groups: services.Decisions, bookkeeping.Rank, words.EitherOne and 2 more.
-- Used by bookkeeping.Decreases, bookkeeping.CallBounds.
use Rattle.std.proofs.Common.{◌≡◌, ◌+◌, ◌-◌, ◌*◌, ◌<◌, ◌≤◌, ◌&&◌, ◌==◌, [], ◌∷◌, ◌++◌, ◌∙◌, if◌then◌else◌}
use Rattle.adc_driver.specs.Terms
use Terms.{AdcTable, after_request, ap, arith, begin, begins, Bool, Chooses, claim, claim_ended, claim_lost, clean_in}
use Terms.{Closes, column_of, Continuation, conversion, convert, ConverterGo, Copied, copies_or, copying, count_of}
use Terms.{Decided, decided, Ends, entered, ErrorName, Event, false, first_from, flagged, Goes, group_in, group_of}
use Terms.{is_continuous, is_full, is_of, is_on, is_ready, is_some, is_under_way, keep, kept_where, leaves, length}
use Terms.{length-append, length-map-range_with_len, limited, List, list_deed, lists_for, looked, looking, makes}
use Terms.{making, map, most_inputs, nat_lt, nat_tests, next_of, None, not, nothing_more, off_where, one_more, Option}
use Terms.{Outside, over, Phase, phase_in, point_by, pulse_by, put_start, PutPart, quieted, range_with_len, rank_of}
use Terms.{read_by, refl, refused, ResultBuffer, round_seen, rounds_of, RoundSeen, samples_of, serve, Serves, serving}
use Terms.{Set, set_up, shape_room, Some, sought, start_deeds, stop, stop_seen, stop_turn, stopping, StopSeen, stores}
use Terms.{suc, survey, survey_by, surveyed, Suspended, take_by, Taken, taken_away, takes_one, Tells, trigger_bit}
use Terms.{trigger_input, trio_of, true, turn_shape, unit_in, unit_of, whether_as, Window, Word, word_seen, yields_by}
use Terms.{zero, ℕ}
use Rattle.adc_driver.specs.laws.{words.EitherOne.{either}, bookkeeping.Rank.{and_then, begin_cost, begins_after}}
use Rattle.adc_driver.specs.laws.bookkeeping.Rank.{claims_after, converting, copied_cost, cost, counts_after}
use Rattle.adc_driver.specs.laws.bookkeeping.Rank.{decided_cost, inputs_at, largest, look_cost, looks_on, making_cost}
use Rattle.adc_driver.specs.laws.bookkeeping.Rank.{open_cost, out_cost, requests_after, seek_cost, serves}
use Rattle.adc_driver.specs.laws.bookkeeping.Rank.{stores_after, then_cost, yields_after, and_then_more, in_largest}
use Rattle.adc_driver.specs.laws.bookkeeping.Rank.{in_most, lists_more}
use Rattle.adc_groups.specs.declared.making.WindowWrite.TheVariants.{Write}
use Rattle.word_shapes.specs.declared.streams.copying.Copied as streams
use Rattle.word_shapes.specs.declared.streams.copying.Copied.TheVariants as copied

-- a frame is done with the step, or the place where it goes on costs at most so much
abbrev pub Covers : (steps : Bool) → AdcTable → ℕ → Decided → Type 0
Covers q d n (Ends t) = is_some t.done ≡ true
Covers q d n (Goes k) = cost q d k ≤ n

-- ---- what follows windows

-- values are copied by two moves each, where there are any
pub copies_few : (d : AdcTable) (c : streams.Copied) (a : Copied) (o : Outside) (m n : ℕ) → count_of c ≤ m → copied_cost d a ≤ n → out_cost d o ≤ n → out_cost d (copies_or (copying c) a o) ≤ 2 * m + n
copies_few d c a o m n few le go = whether_as (count_of c == 0) (λ q. out_cost d (copies_or (if q then None else Some (record { what = c; done = 0; value = None })) a o) ≤ 2 * m + n)
    (λ e. omega (arith, go))
    (λ e. let some : 0 < count_of c = grind (arith, nat_tests, e) in omega (arith, some, few, le))

pub begin_opens : (q : Bool) (d : AdcTable) (u : ℕ) → and_then q (open_cost d (Closes (Window.Begin u))) ≤ and_then q (begins_after d)
begin_opens true d u = omega arith
begin_opens false d u = omega arith

request_opens : (q : Bool) (d : AdcTable) (u : ℕ) → then_cost q d (after_request d u) ≤ and_then q (requests_after d)
request_opens q d u = by q d.priorities
  where
    by : (q p : Bool) → and_then q (open_cost d (Closes (if p then Window.Yield u else Window.Begin u))) ≤ and_then q (if p then yields_after d else begins_after d)
    by true true = omega arith
    by _ _ = omega arith

store_opens : (q : Bool) (d : AdcTable) (t : Taken) (x : RoundSeen) → and_then q (open_cost d (stores d t x)) ≤ and_then q (stores_after d (inputs_at d t.group))
store_opens q d t x = and_then_more q _ _ (by (copies_few d (copied.Bank (rounds_of d t.group) t.bank (column_of d t.group x)) (Tells t.unit t.group (x.notified == 1)) (Closes (Window.Begin t.unit)) (inputs_at d t.group) (begins_after d) (omega arith) (omega arith) (omega arith)))
  where
    by : out_cost d (stores d t x) ≤ 2 * inputs_at d t.group + begins_after d → open_cost d (stores d t x) ≤ stores_after d (inputs_at d t.group)
    by le = omega (arith, le)

claim_opens : (q : Bool) (d : AdcTable) (t : Taken) (e : ℕ) → let o = copies_or (copying (copied.Round (rounds_of d t.group) t.unit (limited e 32) t.bank)) (Serves t) (Closes (Window.Serve t)) in and_then q (open_cost d o) ≤ and_then q (claims_after d (inputs_at d t.group))
claim_opens q d t e = and_then_more q _ _ (by (copies_few d (copied.Round (rounds_of d t.group) t.unit (limited e 32) t.bank) (Serves t) (Closes (Window.Serve t)) (inputs_at d t.group) (7 + serves true d (inputs_at d t.group)) (omega arith) (omega arith) (omega arith)))
  where
    by : let o = copies_or (copying (copied.Round (rounds_of d t.group) t.unit (limited e 32) t.bank)) (Serves t) (Closes (Window.Serve t)) in out_cost d o ≤ 2 * inputs_at d t.group + (7 + serves true d (inputs_at d t.group)) → open_cost d o ≤ claims_after d (inputs_at d t.group)
    by le = omega (arith, le)

-- what keeps the values of a round begins what waits then
begins_counts : (q : Bool) (d : AdcTable) (n : ℕ) → and_then q (begins_after d) ≤ and_then q (counts_after d n)
begins_counts q d n = and_then_more q _ _ (omega arith)

-- numbers that grow with the inputs
counts_more : (q : Bool) (d : AdcTable) (m n : ℕ) → m ≤ n → and_then q (counts_after d m) ≤ and_then q (counts_after d n)
counts_more q d m n le = and_then_more q _ _ (omega (arith, le))

claims_more : (q : Bool) (d : AdcTable) (m n : ℕ) → m ≤ n → and_then q (claims_after d m) ≤ and_then q (claims_after d n)
claims_more q d m n le = and_then_more q _ _ (omega (arith, le))

-- ---- makings

start_length : (d : AdcTable) (u g e left : ℕ) (c : Bool) → length (start_deeds d u g e left c) ≤ lists_for left + 3
start_length d u g e left c =
    let k = length-append (map (list_deed d u g e) (range_with_len 0 (lists_for left))) (Set (Word.Running u) (1 + g) ∷ (claim_ended c u ++ Write (ConverterGo u) left ∷ [])) in
    let n = length-map-range_with_len (list_deed d u g e) 0 (lists_for left) in
    by c (k ∙ ap (λ z. z + length (Set (Word.Running u) (1 + g) ∷ (claim_ended c u ++ Write (ConverterGo u) left ∷ []))) n)
  where
    by : (b : Bool) → length (start_deeds d u g e left c) ≡ lists_for left + length (Set (Word.Running u) (1 + g) ∷ (claim_ended b u ++ Write (ConverterGo u) left ∷ [])) → length (start_deeds d u g e left c) ≤ lists_for left + 3
    by true e = omega (arith, e)
    by false e = omega (arith, e)

conversion_few : (q : Bool) (d : AdcTable) (u g e left n : ℕ) (c : Bool) → left ≤ n → making_cost q d (conversion d u g e left c) ≤ 7 + lists_for n
conversion_few q d u g e left n c le = let few = start_length d u g e left c in let more = lists_more left n le in omega (arith, few, more)

quieted_length : (d : AdcTable) (g : ℕ) → length (quieted d g) ≤ 4
quieted_length d g = whether_as (is_some (trigger_input (group_of d g))) (λ q. length (Set (Word.Phase g) 0 ∷ Set (Word.Notified g) 0 ∷ off_where q (trigger_bit d g)) ≤ 4)
    (λ _. omega arith)
    (λ _. omega arith)

stop_length : (d : AdcTable) (u g : ℕ) (run lost : Bool) → length (quieted d g ++ (taken_away run u ++ (claim_lost lost u ++ Set (Word.Turn g) 0 ∷ []))) ≤ 9
stop_length d u g run lost = let k = length-append (quieted d g) (taken_away run u ++ (claim_lost lost u ++ Set (Word.Turn g) 0 ∷ [])) in let n = quieted_length d g in let m = rest_length run lost in omega (arith, k, n, m)
  where
    rest_length : (run lost : Bool) → length (taken_away run u ++ (claim_lost lost u ++ Set (Word.Turn g) 0 ∷ [])) ≤ 5
    rest_length true true = omega arith
    rest_length true false = omega arith
    rest_length false true = omega arith
    rest_length false false = omega arith

stop_few : (q : Bool) (d : AdcTable) (u g : ℕ) (x : StopSeen) → making_cost q d (stopping d u g x) ≤ 15 + and_then q (begins_after d)
stop_few q d u g x = whether_as (x.turn == 0) (λ b. making_cost q d (if b then making (Some Event.Act) (quieted d g) nothing_more else stop_turn d u g x) ≤ 15 + and_then q (begins_after d))
    (λ _. let n = quieted_length d g in omega (arith, n))
    (λ _. let n = stop_length d u g (x.running == 1 + g) (x.claim == 2 + g) in let le = begin_opens q d u in omega (arith, n, le))

off_length : (b : Bool) (v : ℕ) (u : ℕ) → length (off_where b v ++ Set (Word.Claim u) 0 ∷ []) ≤ 3
off_length true v u = omega arith
off_length false v u = omega arith

turn_room : (u g : ℕ) (again : Bool) → shape_room (turn_shape u g again) ≤ 6
turn_room u g true = omega arith
turn_room u g false = omega arith

serving_few : (q : Bool) (d : AdcTable) (t : Taken) (x : RoundSeen) (c : ℕ) (full : Bool) → making_cost q d (serving d t x c full) ≤ 17 + and_then q (stores_after d (inputs_at d t.group))
serving_few q d t x c full =
    let n = off_length (full && is_some (trigger_input (group_of d t.group))) (trigger_bit d t.group) t.unit in
    let m = turn_room t.unit t.group (is_continuous (group_of d t.group) && not full) in
    let le = store_opens q d t x in
    omega (arith, n, m, le)

-- ---- surveys

-- the next group of a unit is one of those from this one on
found_from : (d : AdcTable) (u : Option ℕ) (n g k : ℕ) → first_from d u n g ≡ Some k → (g ≤ k) × (k < g + n)
found_from d u zero g k e = absurd (cc)
found_from d u (suc n) g k e = by (is_of d u g) e (found_from d u n (g + 1) k)
  where
    by : (q : Bool) → (if q then Some g else first_from d u n (g + 1)) ≡ Some k → (first_from d u n (g + 1) ≡ Some k → (g + 1 ≤ k) × (k < g + 1 + n)) → (g ≤ k) × (k < g + suc n)
    by true e more = let same : g ≡ k = cc in (omega (arith, same), omega (arith, same))
    by false e more = let m = more e in let low = m.0 in let high = m.1 in (omega (arith, low), omega (arith, high))

begun_few : (q : Bool) (d : AdcTable) (w : Window) → cost q d (begin d w) ≤ begin_cost q d w
begun_few q d (Window.Start g) = let le = request_opens q d (unit_of (group_of d g)) in omega (arith, le)
begun_few q d _ = omega arith

-- a survey from this group on looks at those of 16 groups that are left
pub survey_few : (q : Bool) (d : AdcTable) (w : Window) (g : ℕ) → cost q d (survey d w g) ≤ 16 - g + begin_cost q d w
survey_few q d w g = by (next_of d (unit_in d w) g) refl
  where
    by : (o : Option ℕ) → next_of d (unit_in d w) g ≡ o → cost q d (survey_by d w o) ≤ 16 - g + begin_cost q d w
    by None e = let le = begun_few q d w in omega (arith, le)
    by (Some k) e = let f = found_from d (unit_in d w) (16 - g) g k e in let low = f.0 in let high = f.1 in omega (arith, low, high)

-- ---- what windows decide

looked_covers : (q : Bool) (d : AdcTable) (w : Window) (c p : ℕ) → Covers q d (looks_on q d w) (looked d w c p)
looked_covers q d w c p = by (c == 0) (is_under_way (phase_in p)) (takes_one d)
  where
    by : (a b o : Bool) → Covers q d ((if o then 16 else 0) + begin_cost q d w) (if a then refused d w ErrorName.AdcBufferUninit else (if b then refused d w ErrorName.AdcBusy else Goes (if o then survey d w 0 else begin d w)))
    by false false true = survey_few q d w 0
    by false false false = let le = begun_few q d w in omega (arith, le)
    by _ _ o = refl

pub surveyed_covers : (q : Bool) (d : AdcTable) (w : Window) (g p : ℕ) → Covers q d (15 - g + begin_cost q d w) (surveyed d w g p)
surveyed_covers q d w g p = either (Covers q d (15 - g + begin_cost q d w)) (is_under_way (phase_in p)) _ _ refl (let le = survey_few q d w (g + 1) in omega (arith, le))

set_covers : (q : Bool) (d : AdcTable) (g : ℕ) (b : ResultBuffer) (p : ℕ) → Covers q d 1 (set_up d g b p)
set_covers q d g b p = either (Covers q d 1) (p == 0) _ _ (omega arith) refl

point_covers : (q : Bool) (d : AdcTable) (g c p : ℕ) (x : Phase) → Covers q d 1 (point_by d g c p x)
point_covers q d g c p Phase.Idle = refl
point_covers q d g c p Phase.Busy = refl
point_covers q d g c p _ = omega arith

read_covers : (q : Bool) (d : AdcTable) (g : ℕ) (x : Phase) → Covers q d (decided_cost q d (Window.Read g)) (read_by d g x)
read_covers q d g Phase.Idle = refl
read_covers q d g Phase.Busy = refl
read_covers q d g _ = omega arith

stop_covers : (q : Bool) (d : AdcTable) (u g : ℕ) (x : StopSeen) → Covers q d (decided_cost q d (Window.Stop u g)) (stop d u g x)
stop_covers q d u g x = either (Covers q d (decided_cost q d (Window.Stop u g))) (x.phase == 0) _ _ refl (stop_few q d u g x)

yield_covers : (q : Bool) (d : AdcTable) (u c : ℕ) (o : Option ℕ) → cost q d (yields_by d u c o) ≤ decided_cost q d (Window.Yield u)
yield_covers q d u c None = let le = begin_opens q d u in let more = begins_counts q d (largest d) in omega (arith, le, more)
yield_covers q d u c (Some g) =
    let most = counts_more q d (inputs_at d g) (largest d) (in_largest d g) in
    let le = begin_opens q d u in
    let more = begins_counts q d (largest d) in
    either (λ k. cost q d k ≤ decided_cost q d (Window.Yield u)) (c == 0) _ _ (omega (arith, most)) (omega (arith, le, more))

keep_covers : (q : Bool) (d : AdcTable) (r : Suspended) (c : ℕ) → Covers q d (decided_cost q d (Window.Keep r)) (keep r c)
keep_covers q d r c =
    let le = begin_opens q d r.unit in
    elim (c == 2 + r.group) as (λ b. making_cost q d (making None (kept_where b r ++ Set (Word.Claim r.unit) 0 ∷ []) (Continuation.Goes (Closes (Window.Begin r.unit)))) ≤ 2 + and_then q (begins_after d))
    [ true ↦ omega (arith, le) | false ↦ omega (arith, le) ]

begin_covers : (q : Bool) (d : AdcTable) (u r c : ℕ) → Covers q d (decided_cost q d (Window.Begin u)) (begins d u r c)
begin_covers q d u r c = either (Covers q d (decided_cost q d (Window.Begin u))) (r == 0 && c == 0) _ _ (omega arith) refl

convert_covers : (q : Bool) (d : AdcTable) (u g e : ℕ) (c : Bool) → Covers q d (decided_cost q d (Window.Convert u g c)) (convert d u g c e)
convert_covers q d u g e c = let k = inputs_at d g in conversion_few q d u g (limited e k) (k - limited e k) k c (omega arith)

take_covers : (q : Bool) (d : AdcTable) (u : ℕ) (o : Option ℕ) → Covers q d (decided_cost q d (Window.Take u)) (take_by d u o)
take_covers q d u None = refl
take_covers q d u (Some g) = whether_as (is_on u (group_of d g)) (λ b. Covers q d (decided_cost q d (Window.Take u)) (if b then Goes (Chooses u g (put_start (trio_of (rounds_of d g)) PutPart.Choose)) else over))
    (λ e. let le = claims_more q d (inputs_at d g) (most_inputs d u) (in_most d u g e) in omega (arith, le))
    (λ e. refl)

claim_covers : (q : Bool) (d : AdcTable) (t : Taken) (e : ℕ) → Covers q d (decided_cost q d (Window.Claim t)) (claim d t e)
claim_covers q d t e = let le = claim_opens q d t e in omega (arith, le)

serve_covers : (q : Bool) (d : AdcTable) (t : Taken) (x : RoundSeen) → Covers q d (decided_cost q d (Window.Serve t)) (serve d t x)
serve_covers q d t x = by (x.running == 0)
  where
    by : (b : Bool) → Covers q d (decided_cost q d (Window.Serve t)) (if b then leaves d t.unit else (let c = one_more x.count (samples_of (group_of d t.group)) in makes (serving d t x c (is_full (group_of d t.group) c))))
    by true = omega arith
    by false = let c = one_more x.count (samples_of (group_of d t.group)) in let le = serving_few q d t x c (is_full (group_of d t.group) c) in omega (arith, le)

pulse_covers : (q : Bool) (d : AdcTable) (i g : ℕ) (b : Bool) → making_cost q d (pulse_by d i g b) ≤ decided_cost q d (Window.Trigger i g)
pulse_covers q d i g true = omega arith
pulse_covers q d i g false = let le = request_opens q d (unit_of (group_of d g)) in omega (arith, le)

-- by the words that a window has seen
pub decided_covers : (q : Bool) (d : AdcTable) (w : Window) (seen : List ℕ) → Covers q d (decided_cost q d w) (decided d w seen)
decided_covers q d (Window.Setup g b) seen = set_covers q d g b (word_seen seen 0)
decided_covers q d (Window.Point g) seen = point_covers q d g (word_seen seen 1) (word_seen seen 2) (phase_in (word_seen seen 0))
decided_covers q d (Window.Read g) seen = read_covers q d g (phase_in (word_seen seen 0))
decided_covers q d (Window.Start g) seen = looked_covers q d (Window.Start g) (word_seen seen 0) (word_seen seen 1)
decided_covers q d (Window.Enable g) seen = looked_covers q d (Window.Enable g) (word_seen seen 0) (word_seen seen 1)
decided_covers q d (Window.Stop u g) seen = stop_covers q d u g (stop_seen seen)
decided_covers q d (Window.Yield u) seen = yield_covers q d u (word_seen seen 1) (group_in (word_seen seen 0))
decided_covers q d (Window.Suspend u g) seen = omega arith
decided_covers q d (Window.Keep r) seen = keep_covers q d r (word_seen seen 0)
decided_covers q d (Window.Begin u) seen = begin_covers q d u (word_seen seen 0) (word_seen seen 1)
decided_covers q d (Window.Convert u g c) seen = convert_covers q d u g (word_seen seen 0) c
decided_covers q d (Window.Take u) seen = take_covers q d u (group_in (word_seen seen 0))
decided_covers q d (Window.Claim t) seen = claim_covers q d t (word_seen seen 0)
decided_covers q d (Window.Serve t) seen = serve_covers q d t (round_seen seen)
decided_covers q d (Window.Trigger i g) seen = pulse_covers q d i g (word_seen seen 0 == 1)
decided_covers q d _ seen = refl

-- ---- what else places decide

-- a window is entered at its first word
pub entered_few : (q : Bool) (d : AdcTable) (w : Window) → cost q d (entered w) ≤ look_cost q d w 0
entered_few q d w = either (λ k. cost q d k ≤ look_cost q d w 0) (clean_in w) _ _ (omega arith) (omega arith)

pub flagged_covers : (q : Bool) (d : AdcTable) (w : Window) (v : ℕ) → Covers q d (look_cost q d w 0) (flagged w v)
flagged_covers q d w v = either (Covers q d (look_cost q d w 0)) (is_ready w v) _ _ (entered_few q d w) refl

converts_few : (q : Bool) (d : AdcTable) (u x : ℕ) (c : Bool) → cost q d (looking (Window.Convert u x c)) ≤ converting (largest d)
converts_few q d u x c = let le = lists_more (inputs_at d x) (largest d) (in_largest d x) in omega (arith, le)

pub sought_covers : (q : Bool) (d : AdcTable) (w : Window) (x : ℕ) → Covers q d (seek_cost q d w) (sought d w x)
sought_covers q d (Window.Suspend u g) x =
    let le = begin_opens q d u in
    let more = begins_counts q d (inputs_at d g) in
    either (λ k. cost q d k ≤ seek_cost q d (Window.Suspend u g)) (nat_lt x 16 && nat_lt (rank_of d g) (rank_of d x)) _ _ (omega arith) (omega (arith, le, more))
sought_covers q d (Window.Begin u) x = either (Covers q d (converting (largest d))) (nat_lt x 16) _ _ (converts_few q d u x false) refl
sought_covers q d (Window.Leave u) x = either (Covers q d (converting (largest d))) (nat_lt x 16) _ _ (converts_few q d u x true) (omega arith)
sought_covers q d _ x = refl
