-- A frame leaves no unit waiting whose line it has served: a call has served none, and a handler of a unit's line ends where its unit has nothing to start and nothing to abort.
-- From adc_groups: services.Decisions, adc_groups: services.BodySteps, hardware.StableUnderHardware and 4 more.
-- Used by bookkeeping.NoneWaitsPlaces.
use Rattle.std.proofs.Common.{◌≡◌, ◌+◌, ◌-◌, ◌<◌, ◌≤◌, ◌&&◌, ◌||◌, ◌==◌, [], ◌∷◌, ◌∙◌, if◌then◌else◌}
use Rattle.adc_driver.specs.Terms
use Terms.{aborts, aborts_by, Act, acted, adc_machine, AdcState, AdcTable, Agrees, and_false, Answer, ap, arith}
use Terms.{begins, begins_next, BodyTaken, Bool, Brought, Call, Called, Chip, choice, choice_next, Chooses}
use Terms.{choosing_front, claims_on, cond, Decided, decided, Done, EnableHardwareTrigger, ended_by, ends, Entered}
use Terms.{Entry, Epilogue, eq_self, Event, false, finish_of, follows, foot_of, FrameHistory, fresh_history, Front}
use Terms.{front_gave, front_left, front_move, front_start, GetGroupStatus, GetStreamLastPointer, given, goes}
use Terms.{group_in, group_of, happening_at, Has_acted, has_line, Has_served, has_served, HasDone, HasSeen, hold_in}
use Terms.{holds-below, HoldsOrder, InWindow, is_finished, is_full, is_handler, is_on, is_outranked, is_serving}
use Terms.{is_some, Is_this_frame, is_unit_line, IsSeeking, IsServing, IsThisFrame, Leaves, LeavesNone, length}
use Terms.{line_waits, List, look_takes, looking, Looks, Makes, MaySeek, MayTurn, moved, nat_lt, nat_tests}
use Terms.{next_group, no_answer, None, not, Nothing, one_more, Option, Order, order_of, Origin, outcome_of, over}
use Terms.{Place, place_ends, place_move, place_takes, polled_by, put_start, PutPart, Quits, rank_of, ranks_of}
use Terms.{ReadGroup, refl, Reservations, Round, round_at, round_seen, rounds_of, running_of, samples_of, Search}
use Terms.{seek_takes, Seeks, seen_more, Serve, served_by, serving, SetupResultBuffer, slice_index_or, Some}
use Terms.{some_hold, sought, startable_on, StartGroupConversion, starts, starts_by, state_by, subst, suc, sym}
use Terms.{take_by, trio_of, true, unclaimed, value_of, whether_as, will_yield, Window, with_holds, Word, word_at}
use Terms.{word_number, word_of, word_seen, World, world_after, yields_by, zero, ℕ}
use Rattle.adc_driver.specs.laws.hardware.StableUnderHardware.{later_number, marks_later, time_later}
use Rattle.adc_driver.specs.laws.words.EitherOne.{either}
use Rattle.word_shapes.specs.Playing.{Ends}
use Rattle.word_shapes.specs.PriorityQueue.{own_of}
use Rattle.word_shapes.specs.Playing as playing

-- ---- the hardware lets no unit wait

aborts_later : (d : AdcTable) (w x : World) (s : AdcState) (u : ℕ) → w.now ≤ x.now → is_some (aborts d w s u) ≡ false → is_some (aborts d x s u) ≡ false
aborts_later d w x s u le e = by (round_at s u) e
  where
    still : (a b out : Bool) (r : Round) → (a ≡ true → b ≡ true) → is_some (cond (not a && out) (Some r) None) ≡ false → is_some (cond (not b && out) (Some r) None) ≡ false
    still true false out r more e = absurd (let on = more refl in cc)
    still false false out r more e = e
    still _ _ out r more e = refl

    by : (q : Option Round) → is_some (aborts_by d w s u q) ≡ false → is_some (aborts_by d x s u q) ≡ false
    by None e = e
    by (Some r) e = still (is_finished w (group_of d r.group) r) (is_finished x (group_of d r.group) r) (is_outranked d s u r.group) r (λ f. later_number (finish_of (group_of d r.group) r) w.now x.now le f) e

pub waits_later : (d : AdcTable) (w : World) (s : AdcState) (order : Order) (rate line : ℕ) → line_waits d w s line ≡ false → line_waits d (world_after w rate order) (moved d s order) line ≡ false
waits_later d w s order rate line e =
    let m = marks_later d s order in
    subst (λ t. line_waits d (world_after w rate order) t line ≡ false) (sym m.is) (by (is_unit_line line) (is_some (starts d s (line - 24))) (is_some (aborts d w s (line - 24))) refl e)
  where
    by : (q a z : Bool) → is_some (aborts d w s (line - 24)) ≡ z → q && (a || z) ≡ false → q && (a || is_some (aborts d (world_after w rate order) s (line - 24))) ≡ false
    by false a z i e = refl
    by true true z i e = absurd (cc)
    by true false z i e = aborts_later d w (world_after w rate order) s (line - 24) (time_later w rate order) (i ∙ e)

-- ---- a step that ends its frame

module _ (d : AdcTable) (w : World) (s : AdcState) (o : Origin Call) (p : FrameHistory) (b : Brought) where
  -- done with this, it leaves none waiting
  abbrev pub LeavesBy : BodyTaken → Type 0
  LeavesBy t = (n : Done) → t.done ≡ Some n → Leaves (adc_machine d) w (state_by s (outcome_of (adc_machine d) w s (happening_at o b t.event))) o (polled_by (adc_machine d) w s o p.polled t.event) (served_by p.served t.event) n.owed

  -- and where the frame ends itself there
  abbrev pub LeavesSo : Place × BodyTaken → Type 0
  LeavesSo z = ((a : Answer) → ended_by (place_ends z.0) z.1.done ≡ Some a → LeavesNone (adc_machine d) w s o p.polled p.served) × LeavesBy z.1

  -- it goes on
  pub going_so : (k : Place) (e : Option Event) → place_ends k ≡ None → LeavesSo (k, record { event = e; done = None })
  going_so k e none = (λ a f. absurd (let no : None ≡ Some a = sym (ap (λ q. ended_by q None) none) ∙ f in cc), λ n f. absurd (cc))

-- a call polls no line
module _ (d : AdcTable) (w : World) (s : AdcState) (c : Call) (p : FrameHistory) (b : Brought) (none : p.polled ≡ []) where
  still_none : (e : Option Event) → polled_by (adc_machine d) w s (Called c) p.polled e ≡ []
  still_none (Some Act) = refl
  still_none _ = none

  left : (x : AdcState) (polled served : List ℕ) → polled ≡ [] → (v : World) → LeavesNone (adc_machine d) v x (Called c) polled served
  left x polled served e v = subst (λ ls. LeavesNone (adc_machine d) v x (Called c) ls served) (sym e) refl

  leaves : (x : AdcState) (polled served : List ℕ) (owed : Epilogue) → polled ≡ [] → Leaves (adc_machine d) w x (Called c) polled served owed
  leaves x polled served Nothing e = left x polled served e w
  leaves x polled served _ e = λ v t. left t polled served e v

  pub called_by : (t : BodyTaken) → LeavesBy d w s (Called c) p b t
  called_by t n e = leaves (state_by s (outcome_of (adc_machine d) w s (happening_at (Called c) b t.event))) (polled_by (adc_machine d) w s (Called c) p.polled t.event) (served_by p.served t.event) n.owed (still_none t.event)

  pub called_so : (z : Place × BodyTaken) → LeavesSo d w s (Called c) p b z
  called_so z = (λ a e. left s p.polled p.served none w, called_by z.1)

-- a handler that has served nothing
none_served : (e : Option Event) → is_serving e ≡ false → served_by [] e ≡ []
none_served (Some (Serve l)) i = absurd (cc)
none_served _ i = refl

module _ (d : AdcTable) (w : World) (s : AdcState) (l : ℕ) (b : Brought) where
  unserved : (x : AdcState) (polled served : List ℕ) (owed : Epilogue) → served ≡ [] → Leaves (adc_machine d) w x (Entered l) polled served owed
  unserved x polled served Nothing e = ap (λ ls. has_line ls l && line_waits d w x l) e
  unserved x polled served _ e = λ v t. ap (λ ls. has_line ls l && line_waits d v t l) e

  pub unserved_so : (z : Place × BodyTaken) → is_serving z.1.event ≡ false → LeavesSo d w s (Entered l) fresh_history b z
  unserved_so z i = (λ a e. refl, λ n e. unserved (state_by s (outcome_of (adc_machine d) w s (happening_at (Entered l) b z.1.event))) (polled_by (adc_machine d) w s (Entered l) [] z.1.event) (served_by [] z.1.event) n.owed (none_served z.1.event i))

  -- one whose line doesn't wait after the step, with which it is done
  pub calm_so : (p : FrameHistory) (k : Place) (e : Option Event) (a : Answer) → place_ends k ≡ None → line_waits d w (state_by s (outcome_of (adc_machine d) w s (happening_at (Entered l) b e))) l ≡ false → LeavesSo d w s (Entered l) p b (k, ends e a Nothing)
  calm_so p k e a none calm = (
    λ x f. absurd (let no : None ≡ Some x = sym (ap (λ q. ended_by q (Some (record { answer = a; owed = Nothing }))) none) ∙ f in cc),
    λ n f. (
        let x : AdcState = state_by s (outcome_of (adc_machine d) w s (happening_at (Entered l) b e)) in
        let same : record { answer = a; owed = Nothing } ≡ n = cc in
        subst (λ (z : Done). Leaves (adc_machine d) w x (Entered l) (polled_by (adc_machine d) w s (Entered l) p.polled e) (served_by p.served e) z.owed) same (ap (λ q. has_line (served_by p.served e) l && q) calm ∙ and_false (has_line (served_by p.served e) l))
        ),
  )

-- ---- a frame that has done its work, and leaves a unit to others

-- the line of a handler that has served it doesn't wait where its unit has nothing to start and nothing to abort
pub line_calm : (d : AdcTable) (w : World) (s : AdcState) (u l : ℕ) (below : Reservations) → MayTurn u l below → (l ≡ 24 + u → some_hold (claims_on u) below ≡ false → (is_some (starts d s u) ≡ false) × (is_some (aborts d w s u) ≡ false)) → line_waits d w s l ≡ false
line_calm d w s u l below own calm = unit_line_calm (is_unit_line l) refl
  where
    unit_line_calm : (q : Bool) → is_unit_line l ≡ q → q && startable_on d w s (Some (l - 24)) ≡ false
    unit_line_calm false e = refl
    unit_line_calm true e =
        let mine = own e in
        let rests = calm mine.0 mine.1 in
        let same : l - 24 ≡ u = (let is = mine.0 in omega (arith, is)) in
        ap (λ n. startable_on d w s (Some n)) same ∙ (ap (λ q. q || is_some (aborts d w s u)) rests.0 ∙ rests.1)

pub done_so : (d : AdcTable) (w : World) (s : AdcState) (o : Origin Call) (p : FrameHistory) (b : Brought) (u : ℕ) (below : Reservations) → HasDone u below o p → (o ≡ Entered (24 + u) → some_hold (claims_on u) below ≡ false → (is_some (starts d s u) ≡ false) × (is_some (aborts d w s u) ≡ false))
    → (k : Place) (a : Answer) → place_ends k ≡ None → LeavesSo d w s o p b (k, ends None a Nothing)
done_so d w s _ _ b u below (Has_acted c Is_this_frame) calm k a none = called_so d w s c acted b refl (k, ends None a Nothing)
done_so d w s _ _ b u below (Has_served l own Is_this_frame) calm k a none = calm_so d w s l b (has_served l) k None a none (line_calm d w s u l below own (λ e free. calm (ap Entered e) free))

-- ---- by what a frame is

pub being_so : (d : AdcTable) (w : World) (s : AdcState) (b : Brought) (c : Call) (q : FrameHistory) (o : Origin Call) (p : FrameHistory) → q.polled ≡ [] → IsThisFrame (Called c) q o p → (z : Place × BodyTaken) → LeavesSo d w s o p b z
being_so d w s b c q _ _ none Is_this_frame z = called_so d w s c q b none z

pub serving_so : (d : AdcTable) (w : World) (s : AdcState) (b : Brought) (l : ℕ) (o : Origin Call) (p : FrameHistory) → IsServing l o p → (z : Place × BodyTaken) → is_serving z.1.event ≡ false → LeavesSo d w s o p b z
serving_so d w s b l _ _ Is_this_frame z i = unserved_so d w s l b z i

-- ---- A handler that has served its line ends where it looks what may start on its unit: nothing may, and nothing may be aborted.

-- a handler that holds the starts of the unit of its line keeps none that yields below
own_line : (u : ℕ) → u < 2 → is_handler u (Entered (24 + u)) ≡ true
own_line (suc (suc u)) few = absurd (omega (arith, few))
own_line _ few = refl

yields_end : (d : AdcTable) (u c : ℕ) (q : Option ℕ) → place_ends (yields_by d u c q) ≡ None
yields_end d u c None = refl
yields_end d u c (Some g) = either (λ k. place_ends k ≡ None) (c == 0) _ _ refl refl

module _ (d : AdcTable) (below : Reservations) (chip : Chip) (w : World) (s : AdcState) (b : Brought) (o : Origin Call) (p : FrameHistory) where
  abbrev So : Place × BodyTaken → Type 0
  So z = LeavesSo d w s o p b z

  to : (k : Place) → place_ends k ≡ None → So (k, goes)
  to k none = going_so d w s o p b k None none

  -- ---- a unit that the frame leaves

  module _ (u : ℕ) (few : u < 2) (on : s.initialised ≡ true) (has : HasDone u below o p) (h : Agrees d (with_holds o p.acted (hold_in (Window.Begin u)) below) chip w s) where
    -- nothing that its own handler leaves may be aborted
    none_aborts : o ≡ Entered (24 + u) → is_some (aborts d w s u) ≡ false
    none_aborts mine = whether_as (is_some (aborts d w s u)) (λ q. q ≡ false)
        (λ e. absurd (let on = ((h.settled on).promised u).yields e in let none = off in cc))
        (λ e. refl)
      where
        off : will_yield u (with_holds o p.acted (hold_in (Window.Begin u)) below) ≡ false
        off = ap (λ q. not ((u == u) && is_handler u q) && will_yield u below) mine ∙ (ap (λ q. not ((u == u) && q) && will_yield u below) (own_line u few) ∙ ap (λ q. not (q && true) && will_yield u below) (eq_self u))

    ends_so : (o ≡ Entered (24 + u) → some_hold (claims_on u) below ≡ false → is_some (starts d s u) ≡ false) → (k : Place) → place_ends k ≡ None → So (follows k over)
    ends_so rests k none = done_so d w s o p b u below has (λ mine free. (rests mine free, none_aborts mine)) k no_answer none

    runs_on : (q : Option Round) → round_at s u ≡ q → (running_of q == 0) ≡ false → is_some (starts d s u) ≡ false
    runs_on None e i = absurd (cc)
    runs_on (Some x) e i = ap (λ q. is_some (starts_by q (next_group d s u))) e

    -- by the words of the unit
    begins_so : (a c : ℕ) → a ≡ word_of chip (word_number d (Word.Running u)) → c ≡ word_of chip (word_number d (Word.Claim u)) → (k : Place) → place_ends k ≡ None → So (follows k (begins d u a c))
    begins_so a c ea ec k none = by (a == 0) refl (c == 0) refl
      where
        running : (a == 0) ≡ (running_of (round_at s u) == 0)
        running = ap (λ n. n == 0) (ea ∙ ((h.settled on).units u few).running)

        claimed : some_hold (claims_on u) below ≡ not (c == 0)
        claimed = unclaimed u (word_of chip (word_number d (Word.Claim u))) below ((h.settled on).claims u few) ∙ ap (λ n. not (n == 0)) (sym ec)

        by : (q : Bool) → (a == 0) ≡ q → (r : Bool) → (c == 0) ≡ r → So (follows k (if q && r then Decided.Goes (Seeks (Window.Begin u) (front_start (order_of u) (ranks_of d))) else over))
        by true e true i = to (Seeks (Window.Begin u) (front_start (order_of u) (ranks_of d))) refl
        by true e false i = ends_so (λ mine free. absurd (let there : some_hold (claims_on u) below ≡ true = claimed ∙ ap (λ q. not q) i in cc)) k none
        by false e r i = ends_so (λ mine free. runs_on (round_at s u) refl (sym running ∙ e)) k none

    -- by the order of its requests
    module _ (free : round_at s u ≡ None) (xs : List Entry) (holds : HoldsOrder (order_of u) (word_of chip) xs) where
      sought_so : (k : Place) → place_ends k ≡ None → So (follows k (sought d (Window.Begin u) (choice (ranks_of d) xs)))
      sought_so k none = found_or_none (next_group d s u) refl
        where
          found_or_none : (q : Option ℕ) → next_group d s u ≡ q → So (follows k (sought d (Window.Begin u) (choice (ranks_of d) xs)))
          found_or_none None e =
              let rests : is_some (starts d s u) ≡ false = ap (λ q. is_some (starts_by q (next_group d s u))) free ∙ ap (λ q. is_some q) e in
              either (λ x. So (follows k x)) (nat_lt (choice (ranks_of d) xs) 16) _ _ (to (looking (Window.Convert u (choice (ranks_of d) xs) false)) refl) (ends_so (λ mine unclaims. rests) k none)
          found_or_none (Some g) e =
              let unit = (h.settled on).units u few in
              let next = choice_next d s u unit.order.0 unit.order.2 (holds-below (order_of u) (word_of chip) unit.order.0 unit.order.1) g e in
              let same : choice (ranks_of d) xs ≡ g = ap (λ z. choice (ranks_of d) z) (sym holds.is ∙ unit.order.1.is) ∙ next.0 in
              let small : nat_lt (choice (ranks_of d) xs) 16 ≡ true = (let lt = next.1 in grind (arith, nat_tests)) in
              subst (λ q. So (follows k (if q then Decided.Goes (looking (Window.Convert u (choice (ranks_of d) xs) false)) else over))) (sym small) (to (looking (Window.Convert u (choice (ranks_of d) xs) false)) refl)

      abbrev Found : (ℕ → ℕ) → List ℕ → Type 0
      Found m found = HoldsOrder (order_of u) m xs × (found ≡ choice (ranks_of d) xs ∷ [])

      found_so : (n : ℕ) (later : Front) (q : Option Answer) → playing.Either q (Ends choosing_front (own_of (order_of u)) n later (word_of chip) Found) (Found (word_of chip)) → So (seek_takes d (Window.Begin u) later q)
      found_so n later None e = to (Seeks (Window.Begin u) later) refl
      found_so n later (Some a) e =
          let x : given a ≡ choice (ranks_of d) xs = ap (λ ws. slice_index_or ws 0 0) e.1.1 in
          subst (λ z. So (follows (Seeks (Window.Begin u) later) (sought d (Window.Begin u) z))) (sym x) (sought_so (Seeks (Window.Begin u) later) refl)

      pub seeks_so : (z : Search) (ranks : List ℕ) (n : ℕ) → Ends choosing_front (own_of (order_of u)) n (record { search = z; ranks = ranks }) (word_of chip) Found → let r : Front = record { search = z; ranks = ranks } in So (seek_takes d (Window.Begin u) (front_left r (value_of chip (front_move r))) (front_gave r (value_of chip (front_move r))).ended)
      seeks_so z ranks zero e = absurd e
      seeks_so (Search.Tally at) ranks (suc n) e = let r : Front = record { search = Search.Tally at; ranks = ranks } in found_so n (front_left r (word_of chip at.tally)) (front_gave r (word_of chip at.tally)).ended e.2
      seeks_so (Search.Low at t) ranks (suc n) e = let r : Front = record { search = Search.Low at t; ranks = ranks } in found_so n (front_left r (word_of chip at.low)) (front_gave r (word_of chip at.low)).ended e.2
      seeks_so (Search.High at t l) ranks (suc n) e = let r : Front = record { search = Search.High at t l; ranks = ranks } in found_so n (front_left r (word_of chip at.high)) (front_gave r (word_of chip at.high)).ended e.2

  -- ---- the other windows

  abbrev is_begin : Window → Bool
  is_begin (Window.Begin u) = true
  is_begin win = false

  takes_so : (u : ℕ) → IsServing (24 + u) o p → (k : Place) (q : Option ℕ) → place_ends k ≡ None → So (follows k (take_by d u q))
  takes_so u is k None none = serving_so d w s b (24 + u) o p is (follows k over) refl
  takes_so u is k (Some g) none = either (λ x. So (follows k x)) (is_on u (group_of d g)) _ _ (to (Chooses u g (put_start (trio_of (rounds_of d g)) PutPart.Choose)) refl) (serving_so d w s b (24 + u) o p is (follows k over) refl)

  decided_so : (win : Window) (seen : List ℕ) → InWindow d win below w s o p → is_begin win ≡ false → (k : Place) → place_ends k ≡ None → So (follows k (decided d win seen))
  decided_so Window.Close seen is other k none = being_so d w s b Call.DeInit fresh_history o p refl is.0 (follows k over)
  decided_so (Window.Setup g c) seen is other k none = being_so d w s b (Call.Group g (SetupResultBuffer (Some c))) fresh_history o p refl is.0 (follows k (decided d (Window.Setup g c) seen))
  decided_so (Window.Status g) seen is other k none = being_so d w s b (Call.Group g GetGroupStatus) fresh_history o p refl is.0 (follows k (decided d (Window.Status g) seen))
  decided_so (Window.Point g) seen is other k none = being_so d w s b (Call.Group g GetStreamLastPointer) fresh_history o p refl is.0 (follows k (decided d (Window.Point g) seen))
  decided_so (Window.Read g) seen is other k none = being_so d w s b (Call.Group g ReadGroup) fresh_history o p refl is.0.0 (follows k (decided d (Window.Read g) seen))
  decided_so (Window.Start g) seen is other k none = being_so d w s b (Call.Group g StartGroupConversion) fresh_history o p refl is.0 (follows k (decided d (Window.Start g) seen))
  decided_so (Window.Enable g) seen is other k none = being_so d w s b (Call.Group g EnableHardwareTrigger) fresh_history o p refl is.0 (follows k (decided d (Window.Enable g) seen))
  decided_so (Window.Stop u g) seen is other k none = being_so d w s b (Call.Group g is.1.0) fresh_history o p refl is.1.2.0 (follows k (decided d (Window.Stop u g) seen))
  decided_so (Window.Yield u) seen is other k none = to (yields_by d u (word_seen seen 1) (group_in (word_seen seen 0))) (yields_end d u (word_seen seen 1) (group_in (word_seen seen 0)))
  decided_so (Window.Begin u) seen is other k none = absurd (cc)
  decided_so (Window.Leave u) seen is other k none = serving_so d w s b (24 + u) o p is.0 (follows k over) refl
  decided_so (Window.Take u) seen is other k none = takes_so u is.0 k (group_in (word_seen seen 0)) none
  decided_so (Window.Serve t) seen is other k none =
      let c : ℕ = one_more (round_seen seen).count (samples_of (group_of d t.group)) in
      either (λ x. So (follows k x)) ((round_seen seen).running == 0) _ _ (to (Seeks (Window.Leave t.unit) (front_start (order_of t.unit) (ranks_of d))) refl) (to (Makes (serving d t (round_seen seen) c (is_full (group_of d t.group) c))) refl)
  decided_so win seen is other k none = to (follows k (decided d win seen)).0 refl

  looks_by : (win : Window) (seen : List ℕ) (q : Option Word) → So (follows (Looks win seen) (decided d win seen)) → So (look_takes d win seen q)
  looks_by win seen (Some word) so = to (Looks win seen) refl
  looks_by win seen None so = so

  -- a window that looks what may start has seen the words of its unit
  begin_looks : (u : ℕ) (seen : List ℕ) → InWindow d (Window.Begin u) below w s o p → HasSeen d (foot_of chip) (Window.Begin u) seen → Agrees d (with_holds o p.acted (hold_in (Window.Begin u)) below) chip w s → So (place_takes d (Looks (Window.Begin u) seen) (value_of chip (place_move d (Looks (Window.Begin u) seen))))
  begin_looks u [] is has h = to (Looks (Window.Begin u) (word_of chip (word_number d (Word.Running u)) ∷ [])) refl
  begin_looks u (a ∷ []) is has h =
      let c : ℕ = word_of chip (word_number d (Word.Claim u)) in
      let same : a ≡ word_of chip (word_number d (Word.Running u)) = ap (λ ns. slice_index_or ns 0 0) has.0 in
      begins_so u is.1 is.2 is.0 h a c same refl (Looks (Window.Begin u) (a ∷ c ∷ [])) refl
  begin_looks u (a ∷ c ∷ ns) is has h = absurd (let less = has.1 in omega (arith, less))

  pub looks_so : (win : Window) (seen : List ℕ) → InWindow d win below w s o p → HasSeen d (foot_of chip) win seen → Agrees d (with_holds o p.acted (hold_in win) below) chip w s → So (place_takes d (Looks win seen) (value_of chip (place_move d (Looks win seen))))
  looks_so (Window.Begin u) seen is has h = begin_looks u seen is has h
  looks_so win seen is has h =
      let ns : List ℕ = seen_more seen (value_of chip (place_move d (Looks win seen))) in
      looks_by win ns (word_at win (length ns)) (decided_so win ns is refl (Looks win ns) refl)

  -- ---- which request waits first

  pub finds_so : (win : Window) (r : Front) → MaySeek d win below w s o p → IsSeeking d (foot_of chip) win r → Agrees d (with_holds o p.acted (hold_in win) below) chip w s → So (place_takes d (Seeks win r) (value_of chip (place_move d (Seeks win r))))
  finds_so (Window.Begin u) r is has h = seeks_so u is.1 is.2 is.0 h is.4 has.1 has.3 r.search r.ranks has.0 has.4
  finds_so (Window.Suspend u g) r is has h =
      let v : ℕ = value_of chip (front_move r) in
      elim (front_gave r v).ended as (λ q. So (seek_takes d (Window.Suspend u g) (front_left r v) q)) [
        | None ↦ to (Seeks (Window.Suspend u g) (front_left r v)) refl
        | Some a ↦ either (λ k. So (k, goes)) (nat_lt (given a) 16 && nat_lt (rank_of d g) (rank_of d (given a))) _ _ (to (looking (Window.Suspend u g)) refl) (to (begins_next u) refl)
      ]
  finds_so (Window.Leave u) r is has h =
      let v : ℕ = value_of chip (front_move r) in
      elim (front_gave r v).ended as (λ q. So (seek_takes d (Window.Leave u) (front_left r v) q)) [
        | None ↦ to (Seeks (Window.Leave u) (front_left r v)) refl
        | Some a ↦ either (λ x. So (follows (Seeks (Window.Leave u) (front_left r v)) x)) (nat_lt (given a) 16) _ _ (to (looking (Window.Convert u (given a) true)) refl) (to (Quits u) refl)
      ]
  finds_so _ r is has h = absurd is
