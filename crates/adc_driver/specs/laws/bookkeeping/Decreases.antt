-- Each step of a body leaves fewer steps, and one inside a window fewer of its moves.
-- From bookkeeping.Rank, adc_groups: services.BodySteps, bookkeeping.WindowBounds and 7 more.
-- Used by bookkeeping.MaskDiscipline, bookkeeping.Joined.
use Rattle.std.proofs.Common.{◌≡◌, ◌+◌, ◌-◌, ◌*◌, ◌<◌, ◌≤◌, ◌&&◌, ◌||◌, ◌==◌, [], ◌∷◌, ◌++◌, ◌∙◌, ◌⊎◌, if◌then◌else◌}
use Rattle.adc_driver.specs.Terms
use Terms.{aborted_by, Aborts, AdcBody, AdcTable, after_by, after_copies, after_making, all_kept, all_rooms, Answer}
use Terms.{ap, arith, banks_left, begins_next, body_takes, BodyTaken, Bool, choose_takes, Chooses, Continuation}
use Terms.{Copied, copies_on, count_of, Decided, decided, Done, drop, Ends, Event, false, Flag, flagged, follows}
use Terms.{Front, front-lowers, front_gave, front_left, front_room, given, Goes, group_of, has_read, inl, inr}
use Terms.{is_first, is_some, Keeps, keeps_some, left_by, length, length-append, length-drop, limited, List}
use Terms.{look_takes, Looks, LowersTo, Makes, making_event, making_left, making_over, nat_le, nat_lt, nat_tests}
use Terms.{Newest, None, not, one_made, opened, Opens, Option, or_owed, order_left, Out, Outside, outside_left}
use Terms.{owed_of, owes_at, PendingWrites, Phase, Pins, Place, place_takes, Put, put-lowers, put_gave, put_left}
use Terms.{put_room, Quits, read_more, Reading, Reads, refl, rooms, rounds_of, seek_takes, Seeks, seen_more}
use Terms.{shape_lowers, shape_room, Shortens, ShortensTo, slice_get, Some, some_room, some_within, sought, Stage}
use Terms.{stage_by, stage_read, step, steps_then, StructureOp, subst, surveyed, Surveys, Suspended, suspends, sym}
use Terms.{Take, take-lowers, take_gave, take_left, take_room, taken_by, Tells, true, unit_named, whether_as, Window}
use Terms.{WindowWrite, Word, word_at, words_of, WriteBatch, ℕ}
use Rattle.adc_driver.specs.laws.bookkeeping.WindowBounds.{Covers, copies_few, decided_covers, entered_few}
use Rattle.adc_driver.specs.laws.bookkeeping.WindowBounds.{flagged_covers, sought_covers, surveyed_covers}
use Rattle.adc_driver.specs.laws.bookkeeping.Rank.{begin_cost, claiming, copied_cost, copy_by, cost, decided_cost}
use Rattle.adc_driver.specs.laws.bookkeeping.Rank.{inputs_at, keeps_after, look_cost, making_cost, open_cost}
use Rattle.adc_driver.specs.laws.bookkeeping.Rank.{out_cost, seek_cost, stage_cost, then_cost, limited_few, bodies}
use Rattle.adc_driver.specs.laws.bookkeeping.Rank.{body_fuel}
use Rattle.word_shapes.specs.declared.streams.copying.Copied as streams
use Rattle.word_shapes.specs.declared.streams.copying.Copied.TheVariants as copied
use Rattle.mcal_base.specs.facts.Truths.{or_true}

-- the step leaves fewer than this, or is one of them
abbrev pub Lowers : (steps : Bool) → AdcTable → ℕ → Place × BodyTaken → Type 0
Lowers q d n t = ShortensTo n (cost q d t.0) t.1.done

-- the places at which a step is one of the window's moves, neither its first nor its last
abbrev pub is_inner_stage : Stage → Bool
is_inner_stage (Stage.Releases t) = true
is_inner_stage _ = false

abbrev pub is_inner : Place → Bool
is_inner (Opens o) = false
is_inner (Out o) = false
is_inner (Reads n) = is_inner_stage n.stage
is_inner _ = true

-- ---- what was decided

ends_lower : (n later : ℕ) (o : Option Done) → is_some o ≡ true → 0 < n → ShortensTo n later o
ends_lower n later None e some = absurd (cc)
ends_lower n later (Some x) e some = omega (arith, some)

pub follows_lower : (q : Bool) (d : AdcTable) (k : Place) (n m : ℕ) (x : Decided) → Covers q d m x → m < n → Lowers q d n (follows k x)
follows_lower q d k n m (Ends t) e lt = ends_lower n (cost q d k) t.done e (omega (arith, lt))
follows_lower q d k n m (Goes j) le lt = omega (arith, le, lt)

-- ---- words that are looked at

words_few : (w : Window) → length (words_of w) ≤ 6
words_few Window.Close = omega arith
words_few _ = omega arith

seen_length : (seen : List ℕ) (x n : ℕ) → n ≤ 6 → length (seen_more seen x) < n → length (seen_more seen x) ≡ length seen + 1
seen_length seen x n few lt = by (nat_lt (length seen) 6) refl lt
  where
    by : (q : Bool) → nat_lt (length seen) 6 ≡ q → length (if q then seen ++ x ∷ [] else seen) < n → length (if q then seen ++ x ∷ [] else seen) ≡ length seen + 1
    by true e lt = length-append seen (x ∷ [])
    by false e lt = let past : 6 ≤ length seen = grind (arith, nat_tests, e) in absurd (omega (arith, past, lt, few))

looks_lower : (q : Bool) (d : AdcTable) (w : Window) (seen : List ℕ) (x : ℕ) → Lowers q d (look_cost q d w (length seen)) (place_takes d (Looks w seen) x)
looks_lower q d w seen x = more_or_decided (word_at w (length (seen_more seen x))) refl
  where
    more_or_decided : (o : Option Word) → word_at w (length (seen_more seen x)) ≡ o → Lowers q d (look_cost q d w (length seen)) (look_takes d w (seen_more seen x) o)
    more_or_decided None e = follows_lower q d (Looks w (seen_more seen x)) (look_cost q d w (length seen)) (decided_cost q d w) (decided d w (seen_more seen x)) (decided_covers q d w (seen_more seen x)) (omega arith)
    more_or_decided (Some k) e =
        let lt = some_within (words_of w) (length (seen_more seen x)) k e in
        let more = seen_length seen x (length (words_of w)) (words_few w) lt in
        omega (arith, lt, more)

-- ---- routines

seeks_lower : (q : Bool) (d : AdcTable) (w : Window) (r : Front) (x : ℕ) → Lowers q d (front_room r + seek_cost q d w) (place_takes d (Seeks w r) x)
seeks_lower q d w r x = by (front_gave r x).ended (front-lowers r x)
  where
    by : (o : Option Answer) → LowersTo (front_room r) (front_room (front_left r x)) o → Lowers q d (front_room r + seek_cost q d w) (seek_takes d w (front_left r x) o)
    by None lt = let less = lt in omega (arith, less)
    by (Some a) lt = let less = lt in follows_lower q d (Seeks w (front_left r x)) (front_room r + seek_cost q d w) (seek_cost q d w) (sought d w (given a)) (sought_covers q d w (given a)) (omega (arith, less))

chooses_lower : (q : Bool) (d : AdcTable) (u g : ℕ) (r : Put) (x : ℕ) → Lowers q d (put_room r + claiming q d (inputs_at d g)) (place_takes d (Chooses u g r) x)
chooses_lower q d u g r x = by (put_gave r x).ended (put-lowers r x)
  where
    by : (o : Option Answer) → LowersTo (put_room r) (put_room (put_left r x)) o → Lowers q d (put_room r + claiming q d (inputs_at d g)) (choose_takes u g (put_left r x) o)
    by None lt = let less = lt in omega (arith, less)
    by (Some a) lt = let less = lt in omega (arith, less)

releases_lower : (q : Bool) (d : AdcTable) (r : Reading) (t : Take) (x : ℕ) → let s = stage_by (take_left t x) (take_gave t x).ended in stage_cost q r s < stage_cost q r (Stage.Releases t)
releases_lower q d r t x = stage_lowers q (take_gave t x).ended (take-lowers t x)
  where
    stage_lowers : (q : Bool) (o : Option Answer) → LowersTo (take_room t) (take_room (take_left t x)) o → stage_cost q r (stage_by (take_left t x) o) < stage_cost q r (Stage.Releases t)
    stage_lowers true None lt = let less = lt in omega (arith, less)
    stage_lowers true (Some a) lt = let less = lt in omega (arith, less)
    stage_lowers false None lt = let less = lt in omega (arith, less)
    stage_lowers false (Some a) lt = let less = lt in omega (arith, less)

pins_lower : (q : Bool) (d : AdcTable) (g : ℕ) (p : Phase) (x : ℕ) → Lowers q d (cost q d (Pins g p)) (place_takes d (Pins g p) x)
pins_lower true d g p x = omega arith
pins_lower false d g p x = omega arith

aborts_lower : (q : Bool) (d : AdcTable) (r : Suspended) (x : ℕ) → Lowers q d (cost q d (Aborts r)) (place_takes d (Aborts r) x)
aborts_lower q d r x = by q (x == 1) (suspends (group_of d r.group))
  where
    by : (q a s : Bool) → (let t : Option Event × Place = if a then (Some (Event.Abort (unit_named r.unit)), Makes (aborted_by r s)) else (None, begins_next r.unit) in cost q d t.1) < cost q d (Aborts r)
    by true true true = omega arith
    by false true true = omega arith
    by _ _ _ = omega arith

-- ---- makings

abbrev rooms_left : WriteBatch → ℕ
rooms_left m = all_rooms m.order m.banks (drop m.made m.deeds)

-- one that isn't over has a move
goes_some : (o b : Option StructureOp) (ds : List WindowWrite) (n : ℕ) → not (is_some o) && (not (is_some b) && nat_le (length ds) n) ≡ false → 0 < all_rooms o b (drop n ds)
goes_some (Some s) b ds n e = let some = some_room s in omega (arith, some)
goes_some None (Some s) ds n e = let some = some_room s in omega (arith, some)
goes_some None None ds n e = let less : n < length ds = grind (arith, nat_tests, e) in let k = length-drop n ds in omega (arith, k, less)

first_made : (a b c e : Bool) → a && (b && (c && e)) ≡ true → (c ≡ true) × (e ≡ true)
first_made true true true true e = (refl, refl)
first_made _ _ _ _ e = absurd (cc)

is_there : {A : Type 0} (xs : List A) → is_some (slice_get xs 0) ≡ true → 0 < length xs
is_there [] e = absurd (cc)
is_there (x ∷ xs) e = omega arith

-- it goes on with what comes after it, and where it isn't over fewer moves are left
abbrev MakesLess : WriteBatch → WriteBatch → Type 0
MakesLess m n = (n.after ≡ m.after) × (making_over n ≡ false → rooms_left n < rooms_left m)

one_makes : (m : WriteBatch) → (m.made < length m.deeds) ⊎ ((m.order ≡ None) × (m.banks ≡ None)) → MakesLess m (one_made m)
one_makes m some = by (nat_lt m.made (length m.deeds)) refl some
  where
    over : (o b : Option StructureOp) (q : Bool) → o ≡ None → b ≡ None → q ≡ true → not (is_some o) && (not (is_some b) && q) ≡ true
    over o b q i j k = ap (λ z. not (is_some z) && (not (is_some b) && q)) i ∙ (ap (λ z. not (is_some z) && q) j ∙ k)

    by : (q : Bool) → nat_lt m.made (length m.deeds) ≡ q → (m.made < length m.deeds) ⊎ ((m.order ≡ None) × (m.banks ≡ None)) → MakesLess m (if q then record m { made = m.made + 1 } else m)
    by true e some = (refl, λ going. let lt : m.made < length m.deeds = grind (arith, nat_tests, e) in let k = length-drop m.made m.deeds in let n = length-drop (m.made + 1) m.deeds in omega (arith, k, n, lt))
    by false e (inl lt) = absurd (let past : length m.deeds ≤ m.made = grind (arith, nat_tests, e) in omega (arith, past, lt))
    by false e (inr none) = (refl, λ going. absurd (let all : nat_le (length m.deeds) m.made ≡ true = grind (arith, nat_tests, e) in let done = over m.order m.banks (nat_le (length m.deeds) m.made) none.0 none.1 all in let no = sym done ∙ going in cc))

made_less : (m : WriteBatch) (x : ℕ) → MakesLess m (making_left m x)
made_less m x = whether_as (is_first m) (λ q. MakesLess m (if q then one_made m else order_left m m.order x))
    (λ e. let k = first_made (is_some m.event) (m.ahead == 0) (m.made == 0) (is_some (slice_get m.deeds 0)) e in let some = is_there m.deeds k.1 in let none : m.made ≡ 0 = grind (arith, nat_tests, k.0) in one_makes m (inl (omega (arith, some, none))))
    (λ e. by_order m.order refl)
  where
    by_banks : m.order ≡ None → (b : Option StructureOp) → m.banks ≡ b → MakesLess m (banks_left m b x)
    by_banks i (Some s) j = (refl, λ going. let lt = shape_lowers s x in let same : rooms m.banks ≡ shape_room s = ap rooms j in omega (arith, lt, same))
    by_banks i None j = one_makes m (inr (i, j))

    by_order : (o : Option StructureOp) → m.order ≡ o → MakesLess m (order_left m o x)
    by_order (Some s) i = (refl, λ going. let lt = shape_lowers s x in let same : rooms m.order ≡ shape_room s = ap rooms i in omega (arith, lt, same))
    by_order None i = by_banks i m.banks refl

makes_lower : (q : Bool) (d : AdcTable) (m : WriteBatch) (x : ℕ) → Lowers q d (making_cost q d m) (place_takes d (Makes m) x)
makes_lower q d m x = over_or_next (making_over n) refl
  where
    n : WriteBatch
    n = making_left m x

    less : MakesLess m n
    less = made_less m x

    over : (t : Continuation) → t ≡ m.after → Lowers q d (making_cost q d m) (after_making (making_event m) n t)
    over (Continuation.Ends z) e = omega arith
    over (Continuation.Goes o) e = let same : then_cost q d (Continuation.Goes o) ≡ then_cost q d m.after = ap (then_cost q d) e in omega (arith, same)

    over_or_next : (b : Bool) → making_over n ≡ b → Lowers q d (making_cost q d m) (if b then after_making (making_event m) n n.after else (Makes n, step (making_event m)))
    over_or_next true e = over n.after less.0
    over_or_next false e =
        let lt = less.1 e in
        let some = goes_some n.order n.banks n.deeds n.made e in
        let same : then_cost q d n.after ≡ then_cost q d m.after = ap (then_cost q d) less.0 in
        omega (arith, lt, some, same)

-- ---- with the mask open

-- a value that was read is put, and then the next one is read
copied_less : (d : AdcTable) (c : streams.Copied) (i : ℕ) (o : Option ℕ) (a : Copied) (x : ℕ) → out_cost d (copies_on a (after_by c i o x)) < copy_by o (2 * (count_of c - (i + 1))) + copied_cost d a
copied_less d c i None a x = omega arith
copied_less d c i (Some y) a x = by (nat_lt (i + 1) (count_of c)) refl
  where
    over : (a : Copied) → out_cost d (after_copies a) ≤ copied_cost d a
    over (Tells u g true) = omega arith
    over _ = omega arith

    by : (q : Bool) → nat_lt (i + 1) (count_of c) ≡ q → out_cost d (copies_on a (if q then Some (record { what = c; done = i + 1; value = None }) else None)) < copy_by (Some y) (2 * (count_of c - (i + 1))) + copied_cost d a
    by true e = let more : i + 1 < count_of c = grind (arith, nat_tests, e) in omega (arith, more)
    by false e = let le = over a in omega (arith, le)

kept_less : (d : AdcTable) (r : Suspended) (n : ℕ) → n ≤ inputs_at d r.group → out_cost d (keeps_some d r n) ≤ 2 * inputs_at d r.group + keeps_after d
kept_less d r n few = copies_few d (copied.Ended (rounds_of d r.group) r.unit n r.kept) (Keeps (all_kept r n)) (Outside.Closes (Window.Keep (all_kept r n))) (inputs_at d r.group) (keeps_after d) (omega (arith, few)) (omega arith) (omega arith)

outs_lower : (d : AdcTable) (o : Outside) (x : ℕ) → cost true d (outside_left d o x) < out_cost d o
outs_lower d (Outside.Copies c a) x = copied_less d c.what c.done c.value a x
outs_lower d (Outside.Counts r) x = let k = inputs_at d r.group in let n = k - limited r.kept k in let few = limited_few x n in let le = kept_less d r (limited x n) (omega (arith, few)) in omega (arith, le)
outs_lower d (Outside.Closes w) x = let le = entered_few true d w in omega (arith, le)
outs_lower d _ x = omega arith

opens_lower : (d : AdcTable) (o : Outside) → cost true d (opened d o) < open_cost d o
opens_lower d (Outside.Copies c a) = omega arith
opens_lower d _ = omega arith

-- ---- a bank that is read

reads_lower : (d : AdcTable) (r : Reading) (x : ℕ) → stage_cost true (read_more r x) (stage_read (has_read (read_more r x))) < stage_cost true r Stage.Reads
reads_lower d r x = by (nat_lt (length r.values) 32) refl
  where
    shuts : (s : Reading) → has_read s ≡ true → stage_cost true s (stage_read (has_read s)) < stage_cost true r Stage.Reads
    shuts s e = subst (λ q. stage_cost true s (stage_read q) < stage_cost true r Stage.Reads) (sym e) (omega arith)

    goes_on : (s : Reading) → s.rounds ≡ r.rounds → length s.values ≡ length r.values + 1 → (q : Bool) → has_read s ≡ q → stage_cost true s (stage_read (has_read s)) < stage_cost true r Stage.Reads
    goes_on s i k true e = shuts s e
    goes_on s i k false e = subst (λ q. stage_cost true s (stage_read q) < stage_cost true r Stage.Reads) (sym e) (let same : s.rounds.inputs ≡ r.rounds.inputs = ap (λ z. z.inputs) i in let more = left s e in omega (arith, same, more, k))
      where
        left : (s : Reading) → has_read s ≡ false → length s.values < s.rounds.inputs
        left s e = grind (arith, nat_tests, e)

    past : nat_lt (length r.values) 32 ≡ false → has_read r ≡ true
    past e = by (nat_lt (length r.values) r.rounds.inputs) ∙ refl
      where
        by : (q : Bool) → not (q && nat_lt (length r.values) 32) ≡ true
        by true = ap (λ z. not z) e
        by false = refl

    by : (q : Bool) → nat_lt (length r.values) 32 ≡ q → (let s : Reading = if q then record r { values = r.values ++ x ∷ [] } else r in stage_cost true s (stage_read (has_read s)) < stage_cost true r Stage.Reads)
    by true e = let s : Reading = record r { values = r.values ++ x ∷ [] } in goes_on s refl (length-append r.values (x ∷ [])) (has_read s) refl
    by false e = shuts r (past e)

-- ---- all places

stages_lower : (q : Bool) (d : AdcTable) (r : Newest) (s : Stage) (x : ℕ) → r.stage ≡ s → is_inner_stage s || q ≡ true → Lowers q d (stage_cost q r.reading s) (Reads (left_by r s x), taken_by s)
stages_lower true d r Stage.Reads x e i = reads_lower d r.reading x
stages_lower true d r Stage.Shuts x e i = omega arith
stages_lower q d r (Stage.Releases t) x e i = releases_lower q d r.reading t x
stages_lower true d r Stage.Leaves x e i = omega arith
stages_lower true d r Stage.Over x e i = omega arith
stages_lower _ d r _ x e i = absurd (cc)

-- Each step leaves fewer steps, and one inside a window fewer of its moves.
pub place_lowers : (q : Bool) (d : AdcTable) (k : Place) (x : ℕ) → is_inner k || q ≡ true → Lowers q d (cost q d k) (place_takes d k x)
place_lowers q d (Flag w) x i = follows_lower q d (Flag w) (cost q d (Flag w)) (look_cost q d w 0) (flagged w x) (flagged_covers q d w x) (omega arith)
place_lowers q d (Looks w seen) x i = looks_lower q d w seen x
place_lowers q d (Surveys w g) x i = follows_lower q d (Surveys w g) (cost q d (Surveys w g)) (15 - g + begin_cost q d w) (surveyed d w g x) (surveyed_covers q d w g x) (omega arith)
place_lowers q d (Seeks w r) x i = seeks_lower q d w r x
place_lowers q d (Chooses u g r) x i = chooses_lower q d u g r x
place_lowers q d (Pins g p) x i = pins_lower q d g p x
place_lowers q d (Reads n) x i = stages_lower q d n n.stage x refl i
place_lowers q d (Aborts r) x i = aborts_lower q d r x
place_lowers q d (Makes m) x i = makes_lower q d m x
place_lowers q d (Quits u) x i = omega arith
place_lowers true d (Opens o) x i = opens_lower d o
place_lowers true d (Out o) x i = outs_lower d o x
place_lowers _ d _ x i = absurd (cc)

-- ---- The steps and moves that bodies have left are those of their places, also while they owe moves; and each step leaves fewer.

-- ---- moves that are owed

-- they are as many as those of the making, and what comes after them
owed_cost : (f : AdcTable → Continuation → ℕ) (x : AdcTable) (o b : Option StructureOp) (ds : List WindowWrite) (t : Continuation) → or_owed (λ (y : PendingWrites). 1 + (all_rooms y.order y.banks y.deeds - 1 + f y.table y.after)) (owed_of x o b ds t) (1 + (all_rooms o b ds - 1 + f x t)) ≡ 1 + (all_rooms o b ds - 1 + f x t)
owed_cost f x None None (y ∷ ys) t = refl
owed_cost f x _ _ _ t = refl

making_same : (f g : AdcTable → Continuation → ℕ) (x : AdcTable) (m : WriteBatch) → f x m.after ≡ g x m.after → or_owed (λ (y : PendingWrites). 1 + (all_rooms y.order y.banks y.deeds - 1 + f y.table y.after)) (owes_at x (Makes m)) (1 + (all_rooms m.order m.banks (drop m.made m.deeds) - 1 + g x m.after)) ≡ 1 + (all_rooms m.order m.banks (drop m.made m.deeds) - 1 + g x m.after)
making_same f g x m e = subst (λ n. or_owed (λ (y : PendingWrites). 1 + (all_rooms y.order y.banks y.deeds - 1 + f y.table y.after)) (owes_at x (Makes m)) (1 + (all_rooms m.order m.banks (drop m.made m.deeds) - 1 + n)) ≡ 1 + (all_rooms m.order m.banks (drop m.made m.deeds) - 1 + n)) e (by (is_some m.event && nat_le m.made m.ahead))
  where
    by : (q : Bool) → or_owed (λ (y : PendingWrites). 1 + (all_rooms y.order y.banks y.deeds - 1 + f y.table y.after)) (if q then None else owed_of x m.order m.banks (drop m.made m.deeds) m.after) (1 + (all_rooms m.order m.banks (drop m.made m.deeds) - 1 + f x m.after)) ≡ 1 + (all_rooms m.order m.banks (drop m.made m.deeds) - 1 + f x m.after)
    by true = refl
    by false = owed_cost f x m.order m.banks (drop m.made m.deeds) m.after

-- ---- bodies

then_steps : (x : AdcTable) (t : Continuation) → steps_then body_fuel x t ≡ then_cost true x t
then_steps x (Continuation.Ends n) = refl
then_steps x (Continuation.Goes o) = refl

then_moves : (x : AdcTable) (t : Continuation) → 0 ≡ then_cost false x t
then_moves x (Continuation.Ends n) = refl
then_moves x (Continuation.Goes o) = refl

pub fuel_is : (d : AdcTable) (k : AdcBody) → (bodies d).fuel k ≡ cost true k.table k.place
fuel_is d k = by k.table k.place
  where
    by : (x : AdcTable) (p : Place) → (bodies d).fuel (record { table = x; place = p }) ≡ cost true x p
    by x (Makes m) = making_same (steps_then body_fuel) (then_cost true) x m (then_steps x m.after)
    by x _ = refl

pub room_is : (d : AdcTable) (k : AdcBody) → (bodies d).room k ≡ cost false k.table k.place
room_is d k = by k.table k.place
  where
    by : (x : AdcTable) (p : Place) → (bodies d).room (record { table = x; place = p }) ≡ cost false x p
    by x (Makes m) = making_same (λ y t. 0) (then_cost false) x m (then_moves x m.after)
    by x _ = refl

-- each step leaves a body fewer steps
pub shortens : (d : AdcTable) (k : AdcBody) (v : ℕ) → owes_at k.table k.place ≡ None → Shortens (bodies d).fuel k (body_takes k v)
shortens d k v e =
    let t = body_takes k v in
    subst (λ n. ShortensTo n ((bodies d).fuel t.0) t.1.done) (sym (fuel_is d k))
    (subst (λ n. ShortensTo (cost true k.table k.place) n t.1.done) (sym (fuel_is d t.0)) (place_lowers true k.table k.place v (or_true (is_inner k.place))))

-- and one inside a window fewer of its moves
pub narrows : (d : AdcTable) (k : AdcBody) (v : ℕ) → is_inner k.place ≡ true → Shortens (bodies d).room k (body_takes k v)
narrows d k v e =
    let t = body_takes k v in
    subst (λ n. ShortensTo n ((bodies d).room t.0) t.1.done) (sym (room_is d k))
    (subst (λ n. ShortensTo (cost false k.table k.place) n t.1.done) (sym (room_is d t.0)) (place_lowers false k.table k.place v (ap (λ q. q || false) e)))
