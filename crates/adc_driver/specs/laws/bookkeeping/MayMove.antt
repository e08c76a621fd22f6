-- The move of each place that owes nothing is one that a frame of the module may make: it names a word of the module, or a register
-- of the converters that is there, or the mask or a notice.
-- From adc_groups: words.WordsOfModule, adc_groups: services.Decisions, adc_laws: turns.services.WriteBatchRight and 8 more.
-- Used by bookkeeping.Joined.
use Rattle.std.proofs.Common.{◌≡◌, ◌+◌, ◌-◌, ◌*◌, ◌<◌, ◌≤◌, ◌&&◌, ◌||◌, [], ◌∷◌, ◌∙◌, ◌⊎◌, if◌then◌else◌}
use Rattle.adc_driver.specs.Terms
use Terms.{Aborts, adc_bodies, adc_windows, AdcBody, AdcGround, AdcState, AdcTable, Agrees, and_from, ap, arith}
use Terms.{AssertedAt, Bank, bank_word, bank_words, banks_spot, Begins_stream, body_work, Bool, buffer_in, Call, Chip}
use Terms.{Chooses, claim_at, claim_words, Closes_module, Column, column_is, column_word, ConverterGo}
use Terms.{ConverterResult, Copied, count_of, deed_move, deed_work, ends_claim, Event, false, few_inputs, first_words}
use Terms.{FitsAdc, Flag, foot_of, FrameHistory, Front, gap_at, go_at, Group, group_of, group_word, has_input}
use Terms.{hold_in, holds_at, InFlag, inl, inputs_of, inr, InWindow, is_of, is_shared, is_some, is_word, IsCopy}
use Terms.{IsDealing, IsReleasing, IsSeeking, IsStarting, KeepsThem, kept_word, kept_words, length, List, list_any}
use Terms.{list_at, list_deed, lists_for, Load, look_move, Looks, low_words, lt_from, Makes, making_move, may}
use Terms.{MayCopy, MayPin, MaySeek, MayServe, Move, move_by, moves_ahead, NamesOwn, nat_lt, Newest, None}
use Terms.{nothing_more, Notifies, number_of, of_driver, on_there, Opens, Option, order_of, order_words, order_work}
use Terms.{Orders, Origin, Out, OutPlace, Outside, outside_move, owes_at, Pins, Place, place_at, place_move}
use Terms.{place_out, place_sum, place_within, place_words, PointAssertion, Points, Prepares, Pulses, put_move, Quits}
use Terms.{Read, read_spot, ReadsPlace, refl, Reservations, Round, round_at, Rounds, rounds_of, running_at}
use Terms.{running_words, samples_of, Seeks, Serves, Sets_up, shape_move, slice_get, Some, some_ahead, sought_unit}
use Terms.{spot_at, spot_making, spot_or, spot_start, Stage, stage_move, start_deeds, start_of, STATE, Stops}
use Terms.{Stops_turn, Store, StructureOp, subst, suc, Surveys, sym, Take, take_move, Tells, trio_of, true, unit_in}
use Terms.{unit_named, unit_within, whether_as, Window, WindowWrite, with_holds, Within, Word, word_number}
use Terms.{word_there, WORDS, words_of, World, WriteBatch, Zero, zero, ℕ}
use Rattle.adc_driver.specs.laws.words.EitherOne.{either}
use Rattle.word_shapes.specs.PriorityQueue.{own_of}
use Rattle.word_shapes.specs.declared.streams.copying.Copied as streams
use Rattle.word_shapes.specs.declared.streams.copying.Copied.TheVariants as copied

module _ (d : AdcTable) (fits : FitsAdc d) where
  -- a frame may make the move
  abbrev pub Mine : Move → Type 0
  Mine made = is_shared made || may d made ≡ true

  -- ---- words and registers

  load_mine : (k : ℕ) → is_word d k ≡ true → Mine (Load k)
  load_mine k e = and_from (is_word d k) (nat_lt k WORDS) e (lt_from k WORDS (word_there d fits k e))

  store_mine : (k v : ℕ) → is_word d k ≡ true → Mine (Store k v)
  store_mine k v e = and_from (is_word d k) (nat_lt k WORDS) e (lt_from k WORDS (word_there d fits k e))

  named_mine : (own : ℕ → Bool) → ((k : ℕ) → own k ≡ true → is_word d k ≡ true) → (made : Move) → NamesOwn own made → Mine made
  named_mine own is (Load k) at = load_mine k (is k at)
  named_mine own is (Store k v) at = store_mine k v (is k at)
  named_mine own is _ at = absurd at

  result_mine : (u i : ℕ) → u < 2 → i < 32 → Mine (Read (ConverterResult u i))
  result_mine u i few lt = and_from (nat_lt u 2) (nat_lt i 32) (lt_from u 2 few) (lt_from i 32 lt)

  -- all these words are the module's
  abbrev AllOwn : List Word → Type 0
  AllOwn [] = Unit {0}
  AllOwn (x ∷ xs) = (is_word d (word_number d x) ≡ true) × AllOwn xs

  list_mine : (ws : List Word) → AllOwn ws → (i : ℕ) → Mine (look_move d (slice_get ws i))
  list_mine [] all i = refl
  list_mine (x ∷ xs) all zero = load_mine (word_number d x) all.0
  list_mine (x ∷ xs) all (suc i) = list_mine xs all.1 i

  low : (g i : ℕ) → is_some (group_of d g) ≡ true → i < 32 → is_word d (group_word d g i) ≡ true
  low g i there lt = low_words d fits g i there lt

  control_mine : (g : ℕ) → is_some (group_of d g) ≡ true → is_word d (trio_of (rounds_of d g)).control ≡ true
  control_mine g there = let same : STATE + start_of (group_of d g) + 7 ≡ (trio_of (rounds_of d g)).control = omega arith in subst (λ k. is_word d k ≡ true) same (low_words d fits g 7 there (omega arith))

  input_there : (i : ℕ) (k : Option Group) → has_input i k ≡ true → is_some k ≡ true
  input_there i None e = absurd (cc)
  input_there i (Some k) e = refl

  found_there : (q : Option ℕ) (g : ℕ) → is_of d q g ≡ true → is_some (group_of d g) ≡ true
  found_there None g e = e
  found_there (Some u) g e = on_there u (group_of d g) e

  -- ---- how a frame stands

  module _ (below : Reservations) (chip : Chip) (w : World) (s : AdcState) (o : Origin Call) (p : FrameHistory) where
    abbrev StandsAs : PointAssertion (AdcGround d) → Type 0
    StandsAs z = (AdcGround d).represents (with_holds o p.acted (holds_at z) below) (gap_at z) chip w s × place_at z below (foot_of chip) w s o p

    runs_there : (held : Reservations) (u g : ℕ) (r : Round) → Agrees d held chip w s → round_at s u ≡ Some r → r.group ≡ g → is_some (group_of d g) ≡ true
    runs_there held u g r h is same = subst (λ n. is_some (group_of d n) ≡ true) same (on_there u (group_of d r.group) (h.sound.runs u r is).1)

    -- ---- windows that look at words

    window_words : (win : Window) → InWindow d win below w s o p → Agrees d (with_holds o p.acted (hold_in win) below) chip w s → AllOwn (words_of win)
    window_words Window.Close is h = tt
    window_words (Window.Setup g b) is h = (low g 0 is.1.there (omega arith), tt)
    window_words (Window.Status g) is h = (low g 0 is.1.there (omega arith), tt)
    window_words (Window.Point g) is h = (low g 0 is.1.there (omega arith), (low g 4 is.1.there (omega arith), (low g 5 is.1.there (omega arith), tt)))
    window_words (Window.Read g) is h = (low g 0 is.0.1.there (omega arith), tt)
    window_words (Window.Start g) is h = (low g 1 is.1.there (omega arith), (low g 0 is.1.there (omega arith), tt))
    window_words (Window.Enable g) is h = (low g 1 is.1.there (omega arith), (low g 0 is.1.there (omega arith), tt))
    window_words (Window.Stop u g) is h =
        let there = on_there u (group_of d g) is.0 in
        let few = unit_within d fits u g is.0 in
        (low g 0 there (omega arith), (low g 3 there (omega arith), (running_words d u few, (claim_words d u few, tt))))
    window_words (Window.Yield u) is h = (running_words d u is.1, (claim_words d u is.1, tt))
    window_words (Window.Suspend u g) (done, few, on, free, is, first) h = (low g 6 (runs_there (with_holds o p.acted (hold_in (Window.Suspend u g)) below) u g is.round h is.is is.group) (omega arith), tt)
    window_words (Window.Keep r) is h = (claim_words d r.unit is.1, tt)
    window_words (Window.Begin u) is h = (running_words d u is.1, (claim_words d u is.1, tt))
    window_words (Window.Leave u) is h = tt
    window_words (Window.Convert u g false) (done, few, on, free, first) h = (low g 6 (on_there u (group_of d g) first.1) (omega arith), tt)
    window_words (Window.Convert u g true) (done, few, on, alone, first) h = (low g 6 (on_there u (group_of d g) first.1) (omega arith), tt)
    window_words (Window.Take u) is h = (running_words d u is.1, tt)
    window_words (Window.Claim t) (done, few, alone, is) h = (low t.group 6 (runs_there (with_holds o p.acted (hold_in (Window.Claim t)) below) t.unit t.group is.round h is.is is.group) (omega arith), tt)
    window_words (Window.Serve t) is h =
        let there = on_there t.unit (group_of d t.group) h.right.0.2 in
        let few = is.1 in
        (running_words d t.unit few, (low t.group 0 there (omega arith), (low t.group 4 there (omega arith), (low t.group 5 there (omega arith), (low t.group 1 there (omega arith), (low t.group 2 there (omega arith), tt))))))
    window_words (Window.Trigger i g) (is, few, has, marked) h = (low g 3 (input_there i (group_of d g) has) (omega arith), tt)

    flag_own : (win : Window) → InFlag d win below o p → Mine (place_move d (Flag win))
    flag_own (Window.Take u) is = lt_from u 2 is.1
    flag_own (Window.Trigger i g) is = refl
    flag_own _ is = absurd is

    sought_small : (win : Window) → MaySeek d win below w s o p → sought_unit win < 2
    sought_small (Window.Suspend u g) is = is.1
    sought_small (Window.Begin u) is = is.1
    sought_small (Window.Leave u) is = is.1
    sought_small _ is = absurd is

    seek_own : (win : Window) (r : Front) → MaySeek d win below w s o p → IsSeeking d (foot_of chip) win r → Mine (place_move d (Seeks win r))
    seek_own win r is (zero, xs, le, holds, ends) = absurd ends
    seek_own win r is (suc n, xs, le, holds, ends) = named_mine (own_of (order_of (sought_unit win))) (λ k own. order_words d (sought_unit win) k (sought_small win is) own) (place_move d (Seeks win r)) ends.0

    -- ---- a bank that is read

    release_own : (g : ℕ) (t : Take) → is_some (group_of d g) ≡ true → IsReleasing d g (foot_of chip).word t → Mine (take_move t)
    release_own g (Take.Release c) there e = load_mine c (subst (λ k. is_word d k ≡ true) (sym e) (control_mine g there))
    release_own g (Take.Free c v) there e = store_mine c v (subst (λ k. is_word d k ≡ true) (sym e.0) (control_mine g there))
    release_own g _ there e = absurd e

    read_own : (n : Newest) (z : Stage) → StandsAs (read_spot d n z) → Mine (stage_move n.reading z)
    read_own n Stage.Reads h =
        let there = h.0.right.0.2 in
        let bank = n.reading.bank in
        let j = length n.reading.values in
        subst (λ (x : Rounds). j < x.inputs → Mine (Load (bank_word x bank j))) (sym h.1.0) (λ lt. load_mine (bank_word (rounds_of d n.group) bank j) (bank_words d fits n.group bank j there lt)) h.1.1
    read_own n (Stage.Releases t) h = release_own n.group t h.0.right.0.2 h.1.3
    read_own n Stage.Over h = absurd h.1
    read_own n _ h = refl

    -- ---- moves before which an event stands

    dealing_own : (m : WriteBatch) → IsDealing d below (foot_of chip) w s o p m → Mine (making_move d m)
    dealing_own _ (Sets_up g b is idle) = store_mine (group_word d g 1) 0 (low g 1 is.1.there (omega arith))
    dealing_own _ (Notifies g on is) = store_mine (group_word d g 2) 0 (low g 2 is.1.there (omega arith))
    dealing_own _ (Points g z is at busy idle) = store_mine (group_word d g 0) 0 (low g 0 is.1.there (omega arith))
    dealing_own _ (Begins_stream g is may) = store_mine (group_word d g 0) 1 (low g 0 is.1.there (omega arith))
    dealing_own _ (Stops g call stop is idle none) = store_mine (group_word d g 0) 0 (low g 0 is.1.there (omega arith))
    dealing_own _ (Stops_turn g call run lost stop is idle turn round claim) = store_mine (group_word d g 0) 0 (low g 0 is.1.there (omega arith))
    dealing_own _ (Closes_module is on calm none) = store_mine STATE 0 (first_words d 0 (omega arith))
    dealing_own _ (Pulses i g true is may turn) = refl
    dealing_own _ _ = refl

    pin_own : (m : WriteBatch) → MayPin d below (foot_of chip) s o p m → Mine (making_move d m)
    pin_own m (g, y, is, alone, pins, e) = subst (λ z. Mine (making_move d z)) (sym e) (store_mine (group_word d g 0) 0 (low g 0 is.1.there (omega arith)))

    serve_own : (m : WriteBatch) → MayServe d below (foot_of chip) s o p m → Mine (making_move d m)
    serve_own m (t, r, is, few, alone, there, runs, e) = subst (λ z. Mine (making_move d z)) (sym e) (lt_from t.unit 2 few)

    banks_own : (m : WriteBatch) (q : Option StructureOp) → StandsAs (banks_spot d m q) → Mine (making_move d m)
    banks_own m None h = dealing_own m h.1
    banks_own m (Some (StructureOp.Put q)) h = serve_own m h.1
    banks_own m (Some q) h = pin_own m h.1

    -- ---- a start

    begins_known : (u g : ℕ) (c : Bool) → InWindow d (Window.Convert u g c) below w s o p → (u < 2) × (is_some (group_of d g) ≡ true)
    begins_known u g false (done, few, on, free, first) = (few, on_there u (group_of d g) first.1)
    begins_known u g true (done, few, on, alone, first) = (few, on_there u (group_of d g) first.1)

    -- the moves ahead of a start, and the start
    among : (left made : ℕ) (c : Bool) → made ≤ moves_ahead left c → (made < lists_for left) ⊎ ((made ≡ lists_for left) ⊎ (((c ≡ true) × (made ≡ lists_for left + 1)) ⊎ (made ≡ moves_ahead left c)))
    among left made true le = grind (arith, le)
    among left made false le = grind (arith, le)

    lists_few : (e left n i : ℕ) → n ≤ 32 → e + left ≡ n → i < lists_for left → i < 8
    lists_few e left n i few all lt = omega (arith, few, all, lt)

    deed_own : (u g e left made : ℕ) (c : Bool) → u < 2 → is_some (group_of d g) ≡ true → e + left ≡ length (inputs_of (group_of d g)) → made ≤ moves_ahead left c → (x : WindowWrite) × (slice_get (start_deeds d u g e left c) made ≡ Some x) × Mine (deed_move d x)
    deed_own u g e left made c few there all le = which_write (among left made c le)
      where
        which_write : (made < lists_for left) ⊎ ((made ≡ lists_for left) ⊎ (((c ≡ true) × (made ≡ lists_for left + 1)) ⊎ (made ≡ moves_ahead left c))) → (x : WindowWrite) × (slice_get (start_deeds d u g e left c) made ≡ Some x) × Mine (deed_move d x)
        which_write (inl lt) = (list_deed d u g e made, list_at d u g e left c made lt, and_from (nat_lt u 2) (nat_lt made 8) (lt_from u 2 few) (lt_from made 8 (lists_few e left (length (inputs_of (group_of d g))) made (few_inputs d fits g there) all lt)))
        which_write (inr (inl e1)) = (WindowWrite.Set (Word.Running u) (1 + g), ap (λ n. slice_get (start_deeds d u g e left c) n) e1 ∙ running_at d u g e left c, store_mine (word_number d (Word.Running u)) (1 + g) (running_words d u few))
        which_write (inr (inr (inl (e1, e2)))) = (WindowWrite.Set (Word.Claim u) 0, ap (λ n. slice_get (start_deeds d u g e left c) n) e2 ∙ (ap (λ q. slice_get (start_deeds d u g e left q) (lists_for left + 1)) e1 ∙ claim_at d u g e left), store_mine (word_number d (Word.Claim u)) 0 (claim_words d u few))
        which_write (inr (inr (inr e1))) = (WindowWrite.Write (ConverterGo u) left, ap (λ n. slice_get (start_deeds d u g e left c) n) e1 ∙ go_at d u g e left c, lt_from u 2 few)

    starting_own : (u : ℕ) (m : WriteBatch) → IsStarting d below (foot_of chip) w s o p u m → Mine (making_move d m)
    starting_own u _ (Orders g e left c zero r xs is order first ends made) = absurd ends
    starting_own u _ (Orders g e left c (suc n) r xs is order first ends made) =
        subst (λ z. Mine z) (sym (order_work d (Event.Start (unit_named u)) (start_deeds d u g e left c) (moves_ahead left c) nothing_more (some_ahead left c) (StructureOp.Next r) 0))
        (named_mine (own_of (order_of u)) (λ k own. order_words d u k (begins_known u g c is.window).0 own) (shape_move (StructureOp.Next r)) ends.0)
    starting_own u _ (Prepares g e left c made xs is few order holds done) =
        let known = begins_known u g c is.window in
        let x = deed_own u g e left made c known.0 known.1 is.all few in
        subst (λ z. Mine z) (sym (deed_work d (Event.Start (unit_named u)) (start_deeds d u g e left c) (moves_ahead left c) nothing_more (some_ahead left c) made x.0 x.1)) x.2

    start_own : (m : WriteBatch) (q : Option ℕ) (c : Bool) → StandsAs (spot_start d m q c) → Mine (making_move d m)
    start_own m (Some u) c h = starting_own u m h.1
    start_own m None c h = absurd h.1

    making_own : (m : WriteBatch) (e : Option Event) → StandsAs (spot_making d m e) → Mine (making_move d m)
    making_own m (Some (Event.Start x)) h = start_own m (number_of x) (list_any ends_claim m.deeds) h
    making_own m e h = banks_own m m.banks h

    -- ---- with the mask open

    round_own : (u g e j : ℕ) (b : Bank) (v : Option ℕ) → u < 2 → is_some (group_of d g) ≡ true → j < length (inputs_of (group_of d g)) → Mine (move_by (copied.Round (rounds_of d g) u e b) j v)
    round_own u g e j b (Some x) few there lt = store_mine (bank_word (rounds_of d g) b j) x (bank_words d fits g b j there lt)
    round_own u g e j b None few there lt = whether_as (nat_lt j e) (λ q. Mine (if q then Load (kept_word (rounds_of d g) j) else Read (ConverterResult u (j - e))))
        (λ _. load_mine (kept_word (rounds_of d g) j) (kept_words d fits g j there lt))
        (λ _. let most = few_inputs d fits g there in result_mine u (j - e) few (omega (arith, lt, most)))

    bank_own : (g j : ℕ) (b : Bank) (c : Column) (v : Option ℕ) → is_some (group_of d g) ≡ true → c.group ≡ g → c.samples ≡ samples_of (group_of d g) → c.place < c.samples → j < length (inputs_of (group_of d g)) → Mine (move_by (copied.Bank (rounds_of d g) b c) j v)
    bank_own g j b c None there same samples within lt = load_mine (bank_word (rounds_of d g) b j) (bank_words d fits g b j there lt)
    bank_own g j b c (Some x) there same samples within lt = store_mine (column_word c j) x (by (subst (λ n. is_some (group_of d n) ≡ true) (sym same) there) (samples ∙ ap (λ n. samples_of (group_of d n)) (sym same)) (subst (λ n. j < length (inputs_of (group_of d n))) (sym same) lt))
      where
        by : is_some (group_of d c.group) ≡ true → c.samples ≡ samples_of (group_of d c.group) → j < length (inputs_of (group_of d c.group)) → is_word d (column_word c j) ≡ true
        by at all few = subst (λ k. is_word d k ≡ true) (sym (column_is d fits c at all within j)) (place_words d c.group (buffer_in c) (j * c.samples + c.place) (place_within d fits c at all within j few))

    ended_own : (u g n e j : ℕ) (v : Option ℕ) → u < 2 → is_some (group_of d g) ≡ true → e + n ≤ length (inputs_of (group_of d g)) → j < n → Mine (move_by (copied.Ended (rounds_of d g) u n e) j v)
    ended_own u g n e j None few there le lt = let most = few_inputs d fits g there in result_mine u j few (omega (arith, le, lt, most))
    ended_own u g n e j (Some x) few there le lt = store_mine (kept_word (rounds_of d g) (place_sum e j)) x (kept_words d fits g (place_sum e j) there (either (λ z. z < length (inputs_of (group_of d g))) (nat_lt e 128 && nat_lt j 128) _ _ (omega (arith, le, lt)) (omega (arith, le, lt))))

    copies_own : (what : streams.Copied) (a : Copied) (j : ℕ) (v : Option ℕ) → IsCopy d what a → j < count_of what → MayCopy d below a o p → Mine (move_by what j v)
    copies_own (copied.Round r u e b) (Serves t) j v (is, unit, bank, few) lt (line, alone, small, on) =
        subst (λ z. Mine (move_by (copied.Round z u e b) j v)) (sym is) (subst (λ z. Mine (move_by (copied.Round (rounds_of d t.group) z e b) j v)) (sym unit) (round_own t.unit t.group e j b v small (on_there t.unit (group_of d t.group) on) (subst (λ (z : Rounds). j < z.inputs) is lt)))
    copies_own (copied.Bank r b c) (Tells u g true) j v (is, same, samples, within) lt (line, alone, small, on) = subst (λ z. Mine (move_by (copied.Bank z b c) j v)) (sym is) (bank_own g j b c v (on_there u (group_of d g) on) same samples within (subst (λ (z : Rounds). j < z.inputs) is lt))
    copies_own (copied.Bank r b c) (Tells u g false) j v (is, same, samples, within) lt (line, alone, small, on) = subst (λ z. Mine (move_by (copied.Bank z b c) j v)) (sym is) (bank_own g j b c v (on_there u (group_of d g) on) same samples within (subst (λ (z : Rounds). j < z.inputs) is lt))
    copies_own (copied.Ended r u n e) (KeepsThem x) j v (is, unit, kept, le) lt (done, small, on) =
        subst (λ z. Mine (move_by (copied.Ended z u n e) j v)) (sym is) (subst (λ z. Mine (move_by (copied.Ended (rounds_of d x.group) z n e) j v)) (sym unit) (ended_own x.unit x.group n e j v small (on_there x.unit (group_of d x.group) on) le lt))
    copies_own _ _ j v is lt h = absurd is

    out_own : (x : OutPlace) → place_out d x below o p → Mine (outside_move x)
    out_own (Outside.Copies c a) h = copies_own c.what a c.done c.value h.0 h.1 h.2
    out_own (Outside.Counts r) h = lt_from r.unit 2 h.1
    out_own (Outside.Reads g b) h = load_mine STATE (first_words d 0 (omega arith))
    out_own _ h = refl

    -- ---- all of them

    own_at : (k : Place) → StandsAs (spot_at d k) → Mine (place_move d k)
    own_at (Flag win) h = flag_own win h.1
    own_at (Looks win seen) h = list_mine (words_of win) (window_words win h.1.0 h.0) (length seen)
    own_at (Surveys win g) h = load_mine (group_word d g 0) (low g 0 (found_there (unit_in d win) g h.1.2.0) (omega arith))
    own_at (Seeks win r) h = seek_own win r h.1.0 h.1.1
    own_at (Chooses u g r) h = subst (λ z. Mine (put_move z)) (sym h.1.1) (load_mine (trio_of (rounds_of d g)).control (control_mine g (claim_there u g h.1.0 h.0)))
      where
        claim_there : (u g : ℕ) → InWindow d (Window.Claim (record { unit = u; group = g; bank = Zero })) below w s o p → Agrees d below chip w s → is_some (group_of d g) ≡ true
        claim_there u g (done, few, alone, is) at = runs_there below u g is.round at is.is is.group
    own_at (Pins g y) h = load_mine (trio_of (rounds_of d g)).control (control_mine g h.1.0.1.there)
    own_at (ReadsPlace n) h = read_own n n.stage h
    own_at (Aborts r) h = lt_from r.unit 2 h.1.0.1
    own_at (Makes m) h = making_own m m.event h
    own_at (Quits u) h = store_mine (word_number d (Word.Claim u)) 0 (claim_words d u h.1.0.1)
    own_at (Opens x) h = refl
    own_at (Out x) h = out_own x h.1

    of_table : (P : Type 0) (z : PointAssertion (AdcGround d)) → StandsAs (of_driver P z) → P × StandsAs z
    of_table P (Within gap hs place) h = (h.1.0, (h.0, h.1.1))
    of_table _ _ h = (h.1.0, (h.0, h.1.1))

    known_own : (x : AdcTable) (k : Place) → StandsAs (of_driver (x ≡ d) (spot_at d k)) → Mine (place_move x k)
    known_own x k h = let is = of_table (x ≡ d) (spot_at d k) h in subst (λ z. Mine (place_move z k)) (sym is.0) (own_at k is.1)

  -- a place that owes nothing
  pub own_right : (f r : AdcBody → ℕ) (below : Reservations) (chip : Chip) (w : World) (s : AdcState) (k : AdcBody) (o : Origin Call) (p : FrameHistory) → owes_at k.table k.place ≡ None → AssertedAt (AdcGround d) (adc_bodies d f r) below chip w s k o p → is_shared (body_work k) || may d (body_work k) ≡ true
  own_right f r below chip w s k o p e h = known_own below chip w s o p k.table k.place (subst (λ q. StandsAs below chip w s o p (spot_or (adc_windows d f r) q (of_driver (k.table ≡ d) (spot_at d k.place)))) e h)
