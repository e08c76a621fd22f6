-- The steps that a body of the driver has left, and the moves of its window, at most, at any place, reached or not.
-- From adc_groups: words.Cases, adc_groups: services.Decisions, adc_groups: words.WindowWords and 1 more.
-- Used by bookkeeping.WindowBounds, bookkeeping.Decreases, bookkeeping.CallBounds, bookkeeping.Joined and 3 more.
use Rattle.std.proofs.Common.{◌≡◌, ◌+◌, ◌-◌, ◌*◌, ◌<◌, ◌≤◌, ◌==◌, [], ◌∷◌, if◌then◌else◌}
use Rattle.adc_driver.specs.Terms
use Terms.{Aborts, adc_bodies, adc_windows, AdcBody, AdcGround, AdcTable, all_rooms, ap, arith, bare, Bool, Chooses}
use Terms.{cond, Continuation, Copied, Copying, count_of, drop, false, FitsAdc, Flag, front_room, Group, group_of}
use Terms.{inputs_of, inputs_on, is_on, is_some, Keeps, length, limited, List, lists_for, LongBodies, Looks, Makes}
use Terms.{making_owed, max, most_inputs, most_inputs_in, nat_lt, nat_tests, None, Opens, Option, Out, Outside}
use Terms.{PendingWrites, Pins, Place, put_room, Quits, Reading, Reads, refl, Seeks, Serves, slice_index_or, Some}
use Terms.{some_or_none, Stage, subst, suc, Surveys, sym, take_room, takes_one, Tells, true, whether, whether_as}
use Terms.{Window, Windows, within, words_of, WriteBatch, zero, ℕ}

-- ---- inputs

-- the inputs of a group, and of the largest of the groups with smaller numbers
abbrev pub inputs_at : AdcTable → (group : ℕ) → ℕ
inputs_at d g = length (inputs_of (group_of d g))

abbrev pub largest_below : AdcTable → ℕ → ℕ
largest_below d zero = 0
largest_below d (suc n) = max (inputs_at d n) (largest_below d n)

-- the inputs of the largest group
abbrev pub largest : AdcTable → ℕ
largest d = largest_below d 16

-- ---- what follows a window

-- Steps and moves are counted alike; but what comes once a window is over counts for the steps alone.
abbrev pub and_then : (steps : Bool) → ℕ → ℕ
and_then true n = n
and_then false n = 0

-- a window that starts a round looks at 1 word, makes a choice of up to 4 moves, and up to 3 moves besides the list registers
abbrev pub converting : (inputs : ℕ) → ℕ
converting n = 8 + lists_for n

-- the steps from the opening of the mask on where a window begins what waits: it opens and closes the mask, looks at 2 words, and seeks by 3
abbrev pub begins_after : AdcTable → ℕ
begins_after d = 7 + converting (largest d)

-- the same where it keeps the values of an aborted round first: how many they are is read, and each is copied by 2 moves, and then
-- the window that keeps them looks at a word and makes 2 moves
abbrev pub keeps_after : AdcTable → ℕ
keeps_after d = 4 + begins_after d

abbrev pub counts_after : AdcTable → (inputs : ℕ) → ℕ
counts_after d n = 2 + (2 * n + keeps_after d)

-- where it may abort a round first: 2 words, a search by 3, and then 1 word, the abort, and 4 moves
abbrev pub yields_after : AdcTable → ℕ
yields_after d = 13 + counts_after d (largest d)

-- after a request
abbrev pub requests_after : AdcTable → ℕ
requests_after d = if d.priorities then yields_after d else begins_after d

-- after a round was served: it is copied, and a notice given
abbrev pub stores_after : AdcTable → (inputs : ℕ) → ℕ
stores_after d n = 1 + (2 * n + begins_after d)

-- a round is served by 17 moves at most; where the unit has none any more, what waits is begun, by a search of 3 moves
abbrev pub serves : (steps : Bool) → AdcTable → (inputs : ℕ) → ℕ
serves q d n = 17 + (lists_for (largest d) - 6 + and_then q (stores_after d n))

-- after a round was claimed: it is copied, and the window that serves it looks at 6 words
abbrev pub claims_after : AdcTable → (inputs : ℕ) → ℕ
claims_after d n = 1 + (2 * n + (7 + serves true d n))

-- a bank that is read, of so many values more: then the mask closes, 2 moves release it, the mask opens, and the frame ends
abbrev pub reads_after : (inputs : ℕ) → ℕ
reads_after n = 8 + n

-- ---- windows

-- the moves of what a window goes on with that surveys the groups
abbrev pub begin_cost : (steps : Bool) → AdcTable → Window → ℕ
begin_cost q d (Window.Start g) = 9 + and_then q (requests_after d)
begin_cost q d (Window.Enable g) = 4
begin_cost q d w = 2

-- a survey of all groups, where there is one
abbrev pub looks_on : (steps : Bool) → AdcTable → Window → ℕ
looks_on q d w = (if takes_one d then 16 else 0) + begin_cost q d w

-- an abort, and what comes after it, of a group with so many inputs
abbrev pub aborting : (steps : Bool) → AdcTable → (inputs : ℕ) → ℕ
aborting q d n = 5 + and_then q (counts_after d n)

-- what a search ends with
abbrev pub seek_cost : (steps : Bool) → AdcTable → Window → ℕ
seek_cost q d (Window.Suspend u g) = 1 + aborting q d (inputs_at d g)
seek_cost q d w = converting (largest d)

-- a claim that looks at its word
abbrev pub claiming : (steps : Bool) → AdcTable → (inputs : ℕ) → ℕ
claiming q d n = 2 + and_then q (claims_after d n)

-- what a window decides by the words that it has looked at
abbrev pub decided_cost : (steps : Bool) → AdcTable → Window → ℕ
decided_cost q d Window.Close = 0
decided_cost q d (Window.Setup g b) = 1
decided_cost q d (Window.Status g) = 0
decided_cost q d (Window.Point g) = 1
decided_cost q d (Window.Read g) = 3 + and_then q (reads_after (inputs_at d g))
decided_cost q d (Window.Start g) = looks_on q d (Window.Start g)
decided_cost q d (Window.Enable g) = looks_on q d (Window.Enable g)
decided_cost q d (Window.Stop u g) = 15 + and_then q (begins_after d)
decided_cost q d (Window.Yield u) = 4 + aborting q d (largest d)
decided_cost q d (Window.Suspend u g) = aborting q d (inputs_at d g)
decided_cost q d (Window.Keep r) = 2 + and_then q (begins_after d)
decided_cost q d (Window.Begin u) = 3 + converting (largest d)
decided_cost q d (Window.Leave u) = 0
decided_cost q d (Window.Convert u g c) = 7 + lists_for (inputs_at d g)
decided_cost q d (Window.Take u) = 1 + claiming q d (most_inputs d u)
decided_cost q d (Window.Claim t) = 1 + and_then q (claims_after d (inputs_at d t.group))
decided_cost q d (Window.Serve t) = serves q d (inputs_at d t.group)
decided_cost q d (Window.Trigger i g) = 7 + and_then q (requests_after d)

-- one that has looked at so many of its words
abbrev pub look_cost : (steps : Bool) → AdcTable → Window → (seen : ℕ) → ℕ
look_cost q d w n = 1 + (length (words_of w) - (n + 1) + decided_cost q d w)

-- ---- with the mask open

-- the moves of a copy that is under way, whose next one gets a value or puts it
abbrev pub copy_by : Option ℕ → (others : ℕ) → ℕ
copy_by None n = 2 + n
copy_by (Some x) n = 1 + n

abbrev pub copy_cost : Copying → ℕ
copy_cost c = copy_by c.value (2 * (count_of c.what - (c.done + 1)))

-- the mask closes, and a window looks at its words
abbrev pub closes_cost : AdcTable → Window → ℕ
closes_cost d w = 1 + look_cost true d w 0

abbrev pub copied_cost : AdcTable → Copied → ℕ
copied_cost d (Serves t) = closes_cost d (Window.Serve t)
copied_cost d (Tells u g on) = 1 + closes_cost d (Window.Begin u)
copied_cost d (Keeps r) = closes_cost d (Window.Keep r)

-- a pinned bank
abbrev pub stage_cost : (steps : Bool) → Reading → Stage → ℕ
stage_cost q r Stage.Reads = and_then q (6 + (r.rounds.inputs - (length r.values + 1)))
stage_cost q r Stage.Shuts = and_then q 5
stage_cost q r (Stage.Releases t) = take_room t + and_then q 2
stage_cost q r Stage.Leaves = and_then q 2
stage_cost q r Stage.Over = and_then q 1

abbrev pub out_cost : AdcTable → Outside → ℕ
out_cost d (Outside.Copies c a) = copy_cost c + copied_cost d a
out_cost d (Outside.Counts r) = 1 + (2 * inputs_at d r.group + keeps_after d)
out_cost d (Outside.Reads g b) = 7 + (inputs_at d g - 1)
out_cost d (Outside.Notes g u) = 1 + closes_cost d (Window.Begin u)
out_cost d (Outside.Closes w) = closes_cost d w

-- ---- places

-- from the opening of the mask on
abbrev pub open_cost : AdcTable → Outside → ℕ
open_cost d o = 1 + out_cost d o

abbrev pub then_cost : (steps : Bool) → AdcTable → Continuation → ℕ
then_cost q d (Continuation.Ends n) = 0
then_cost q d (Continuation.Goes o) = and_then q (open_cost d o)

abbrev pub making_cost : (steps : Bool) → AdcTable → WriteBatch → ℕ
making_cost q d m = 1 + (all_rooms m.order m.banks (drop m.made m.deeds) - 1 + then_cost q d m.after)

abbrev pub cost : (steps : Bool) → AdcTable → Place → ℕ
cost q d (Flag w) = 1 + look_cost q d w 0
cost q d (Looks w seen) = look_cost q d w (length seen)
cost q d (Surveys w g) = 1 + (15 - g + begin_cost q d w)
cost q d (Seeks w r) = front_room r + seek_cost q d w
cost q d (Chooses u g r) = put_room r + claiming q d (inputs_at d g)
cost q d (Pins g x) = 3 + and_then q (reads_after (inputs_at d g))
cost q d (Reads n) = stage_cost q n.reading n.stage
cost q d (Aborts r) = aborting q d (inputs_at d r.group)
cost q d (Makes m) = making_cost q d m
cost q d (Quits u) = 1
cost q d (Opens o) = and_then q (open_cost d o)
cost q d (Out o) = and_then q (out_cost d o)

-- ---- bodies

-- the steps that are left, and the moves of the window, but for its first and last one
abbrev pub body_fuel : AdcBody → ℕ
body_fuel k = cost true k.table k.place

abbrev pub body_room : AdcBody → ℕ
body_room k = cost false k.table k.place

-- the windows and the bodies of the driver
abbrev pub V : (d : AdcTable) → Windows (bare d) PendingWrites (AdcTable × Continuation) AdcBody (making_owed d)
V d = adc_windows d body_fuel body_room

abbrev pub bodies : (d : AdcTable) → LongBodies (AdcGround d) AdcBody
bodies d = adc_bodies d body_fuel body_room

-- ---- What bounds the steps of places: the inputs of groups, and numbers that grow with them.

-- ---- numbers

pub limited_few : (v m : ℕ) → limited v m ≤ m
limited_few v m = whether_as (nat_lt v m) (λ q. (if q then v else m) ≤ m)
    (λ e. grind (arith, nat_tests))
    (λ e. omega arith)

pub lists_more : (m n : ℕ) → m ≤ n → lists_for m ≤ lists_for n
lists_more m n le = omega (arith, le)

pub and_then_more : (q : Bool) (m n : ℕ) → m ≤ n → and_then q m ≤ and_then q n
and_then_more true m n le = le
and_then_more false m n le = omega arith

-- ---- inputs

pub below_largest : (d : AdcTable) (n g : ℕ) → g < n → inputs_at d g ≤ largest_below d n
below_largest d zero g lt = absurd (omega (arith, lt))
below_largest d (suc n) g lt = whether (g == n)
    (λ e. let same : g ≡ n = grind (arith, nat_tests) in subst (λ z. inputs_at d z ≤ max (inputs_at d n) (largest_below d n)) (sym same) (omega arith))
    (λ e. let less : g < n = grind (arith, nat_tests, lt) in let le = below_largest d n g less in omega (arith, le))

-- no group has more than the largest
pub in_largest : (d : AdcTable) (g : ℕ) → inputs_at d g ≤ largest d
in_largest d g = some_or_none (group_of d g)
    (λ k e. below_largest d 16 g (within d g (ap (λ k. is_some k) e)))
    (λ e. let none : inputs_at d g ≡ 0 = ap (λ k. length (inputs_of k)) e in omega (arith, none))

-- no group of a unit has more than the largest of the unit
on_most : (ks : List (Option Group)) (u g : ℕ) → is_on u (slice_index_or ks g None) ≡ true → length (inputs_of (slice_index_or ks g None)) ≤ most_inputs_in ks u
on_most [] u g e = absurd (cc)
on_most (k ∷ ks) u zero e = let same : length (inputs_of k) ≡ inputs_on u k = ap (λ q. cond q (length (inputs_of k)) 0) (sym e) in omega (arith, same)
on_most (k ∷ ks) u (suc g) e = let le = on_most ks u g e in omega (arith, le)

pub in_most : (d : AdcTable) (u g : ℕ) → is_on u (group_of d g) ≡ true → inputs_at d g ≤ most_inputs d u
in_most d u g = whether_as (nat_lt g 16) (λ q. is_on u (if q then slice_index_or d.groups g None else None) ≡ true → length (inputs_of (if q then slice_index_or d.groups g None else None)) ≤ most_inputs d u)
    (λ _ e. on_most d.groups u g e) (λ _ e. absurd (cc))

-- in a configuration that fits no group has more than 32
few_at : (d : AdcTable) → FitsAdc d → (g : ℕ) → inputs_at d g ≤ 32
few_at d fits g = by (group_of d g) refl
  where
    by : (k : Option Group) → group_of d g ≡ k → length (inputs_of k) ≤ 32
    by None e = omega arith
    by (Some k) e = (fits.groups g k e).few

few_below : (d : AdcTable) → FitsAdc d → (n : ℕ) → largest_below d n ≤ 32
few_below d fits zero = omega arith
few_below d fits (suc n) = let few = few_at d fits n in let le = few_below d fits n in omega (arith, few, le)

pub few_inputs : (d : AdcTable) → FitsAdc d → largest d ≤ 32
few_inputs d fits = few_below d fits 16
