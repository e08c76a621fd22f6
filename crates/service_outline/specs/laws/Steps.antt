-- Each step of a frame that follows the outline is right, from what its driver owes.
-- From StepKinds, Acts, Seen, Fuel.
-- Used by Lawful, guests.OutlineLaws.
use Rattle.std.proofs.Common.{◌≡◌, ℕ, ◌+◌, ◌<◌, ◌≤◌, ◌==◌, ◌||◌, not, Bool, true, false, List, [], ◌∷◌, Option, Some, None, refl, sym, ap, subst, arith, inl, inr}
use Rattle.chip_model.specs.Chip.{Chip, value_of, chip_after}
use Rattle.mcal_base.specs.declared.answer.Answer.{Answer}
use Rattle.mcal_base.specs.declared.error_name.ErrorName.{ErrorName}
use Rattle.mcal_base.specs.declared.moves.DevError.{DevError}
use Rattle.mcal_base.specs.declared.moves.Event.{Event}
use Rattle.mcal_base.specs.declared.moves.Event.TheVariants.{Act, Serve, Abort, Start}
use Rattle.mcal_base.specs.declared.moves.Move.{Move}
use Rattle.mcal_base.specs.declared.moves.Move.TheVariants.{Read, Write, Load, Store, Mask, Unmask, Note, Report}
use Rattle.mcal_base.specs.declared.notice.Notice.{Notice}
use Rattle.run_model.specs.World.{World}
use Rattle.run_model.specs.Machine.{Machine, Told, Begun, outcome_with}
use Rattle.run_model.specs.Frame.{Origin, Called, Entered, Owing, ActedAt, Open, owing, brought_by, happening_of, happening_at, outcome_of, state_by, polled_by, served_by, reads_after, is_write, writes_after, is_act, since_after, acts_after, missed_after, top_after, is_shared, resets_chip, begins_word}
use Rattle.run_model.specs.Legal.{is_beside_act, WindowRight, has_line, MayEnd, LeavesNone, AllMade, MadeUnless, HasMade}
use Rattle.std.specs.List.{list_all}
use Rattle.std.proofs.lemmas.Bool.{and_from, or_left, or_right}
use Rattle.mcal_base.specs.facts.Truths.{and_first, and_second}
use Rattle.mcal_base.specs.facts.Numbers.{eq_is}
use Rattle.step_runner.specs.Driver.{most_steps, KeepsStep, stepped, ComesRight}
use Rattle.service_outline.specs.declared.done.Epilogue.{Epilogue}
use Rattle.service_outline.specs.declared.done.Epilogue.TheVariants.{Nothing, Error, One, Two}
use Rattle.service_outline.specs.declared.done.BodyTaken.{BodyTaken}
use Rattle.service_outline.specs.declared.done.Done.{Done}
use Rattle.service_outline.specs.declared.body.Looked.{Looked}
use Rattle.service_outline.specs.declared.body.Looked.TheVariants.{Refused, Goes}
use Rattle.service_outline.specs.declared.short.Short.{Short}
use Rattle.service_outline.specs.declared.short.Short.TheVariants.{Calling, Loading, Entering, Inside, Opening, Telling, Returning}
use Rattle.service_outline.specs.Short.{short_move, short_left, ending_gave, gave_body, tells, goes, does, left_look, gave_look, left_body, left_open, gave_open, left_told, gave_told}
use Rattle.service_outline.specs.Fuel.{short_fuel, ShortensTo}
use Rattle.service_outline.specs.laws.Fuel.{look_fuel, look_room, body_fuel, body_room}
use Rattle.service_outline.specs.Outline.{notices_in, error_in, owes_nothing, form}
use Rattle.service_outline.specs.FrameHistory.{FrameHistory, fresh_history, with_past, having, AreMissed, past_wrote, past_after, MayAnswer}
use Rattle.service_outline.specs.Services.{ReservedBy, SharedRefinement, AreShown, MayStop, PointAssertion, Within, Outside, Looking, Adding, AssertedAt, is_closed, holds_at, gap_at, place_at, Elsewhere, Leaves, Services, HasWritten, WritesOn, AreEndingServices, RightOr, ended_at, IsDone, IsOver, Waits, AllWait, IsTop, Relates, Decides, Continues, Works, Notes, Makes, MakesTo, KeepsMask, TurnsMask, with_holds, holds_by, holds_in, services_driver}
use Rattle.service_outline.specs.Acts.{KeepsClean, ActsRight, IsFresh, Behaves, LeavesRight}
use Rattle.service_outline.specs.laws.Acts.{sound_leaves, leaves_on, fresh_leaves, fresh_on, fresh_behaves, goes_behaves, goes_sound, ends_leaves, refused_leaves}
use Rattle.service_outline.specs.WindowHistory.{IsSeen, MayOpen, Sees}
use Rattle.service_outline.specs.laws.Seen.{seen_start, seen_begins, opens_right, window_right, SeesOn, sees_on, not_mask}
use Rattle.service_outline.specs.laws.StepKinds.{acted_then, rest_acted, Keeps, rest_after, plain_step, last_step, mask_step, unmask_step, leave_step, report_step, note_step, event_step, form_is, may_more}

-- what the law says of a step
abbrev pub KeepsAt : {State Call Asked Body : Type 0} → Services State Call Asked Body → (Body → Option Answer) → Chip → World → (received : ℕ) → Short Asked Body → Open Call → List (Short Asked Body × Open Call) → State → Type 0
KeepsAt d ends_with chip w received f o ps s =
    let made = short_move d.word d.bodies.work_of f in
    let value = value_of chip made in
    let taken = ending_gave d.looked d.bodies.takes ends_with f value in
    KeepsStep (services_driver d) (record { chip = chip; world = w; state = s; opens = []; steps = 0 }) f o (short_left d.looked d.bodies.takes f value) (stepped made value received taken) (λ s1 o1. Relates d (chip_after chip made received) w (top_after (short_left d.looked d.bodies.takes f value, o1) taken.ended ps) s1)

-- how the mask stands after a step of a body: as the next place has it, or closed, where it is done
abbrev pub StandsMasked : Bool → Bool → Option Done → Type 0
StandsMasked inside is None = is ≡ inside
StandsMasked inside is (Some n) = inside ≡ true

stands_masked : (is : Bool) (room later : ℕ) (e : Option Event) (left : Option Done) → KeepsMask true is room later e left → StandsMasked true is left
stands_masked is room later e None h = h.0
stands_masked is room later e (Some n) h = refl

room_shortens : (is : Bool) (room later : ℕ) (e : Option Event) (left : Option Done) → KeepsMask true is room later e left → ShortensTo room later left
room_shortens is room later e None h = h.1
room_shortens is room later e (Some n) h = h

-- with the mask open nothing is under work, and the place rests on the frame alone
pub settled_at : {State Call : Type 0} {g : SharedRefinement State Call} (x : PointAssertion g) → is_closed x ≡ false → gap_at x ≡ g.settled
settled_at (Within gap hs place) e = absurd (cc)
settled_at (Outside hs place) e = refl
settled_at (Looking gap hs place) e = absurd (cc)

pub stays_at : {State Call : Type 0} {g : SharedRefinement State Call} (x : PointAssertion g) (below : List (ReservedBy Call g.Reservation)) (f f1 : g.Footprint) (w w1 : World) (s s1 : State) (origin : Origin Call) (past : FrameHistory) → is_closed x ≡ false → place_at x below f w s origin past → place_at x below f1 w1 s1 origin past
stays_at (Within gap hs place) below f f1 w w1 s s1 origin past e h = absurd (cc)
stays_at (Outside hs place) below f f1 w w1 s s1 origin past e h = h
stays_at (Looking gap hs place) below f f1 w w1 s s1 origin past e h = absurd (cc)

-- ---- lines that were surely missed

none_missed : (missed : ℕ → Bool) → AreMissed [] missed
none_missed missed l e = absurd (cc)

-- they stay so, and one that isn't ready is missed too
missed_on : {State Call : Type 0} (mac : Machine State Call) (w : World) (s : State) (ms : List ℕ) (missed : ℕ → Bool) → AreMissed ms missed → AreMissed ms (missed_after mac w s missed)
missed_on mac w s ms missed known l e = or_left (missed l) (not (mac.ready w s l)) (known l e)

missed_more : (ready missed : ℕ → Bool) (k : ℕ) (ms : List ℕ) → ready k ≡ false → AreMissed ms missed → AreMissed (k ∷ ms) (λ l. missed l || not (ready l))
missed_more ready missed k ms e known l h = by (k == l) refl h
  where
    by : (b : Bool) → (k == l) ≡ b → b || has_line ms l ≡ true → missed l || not (ready l) ≡ true
    by true f h = or_right (missed l) (not (ready l)) (ap not (subst (λ n. ready n ≡ false) (eq_is k l f) e))
    by false f h = or_left (missed l) (not (ready l)) (known l h)

-- lines that were served or surely missed were served or missed
one_missed : (a b c : Bool) → (c ≡ true → b ≡ true) → a || (b || c) ≡ true → a || b ≡ true
one_missed true b c f h = refl
one_missed false true c f h = refl
one_missed false false c f h = f h

all_missed : (served ms : List ℕ) (missed : ℕ → Bool) → AreMissed ms missed → (ls : List ℕ) → list_all (λ l. has_line served l || (missed l || has_line ms l)) ls ≡ true → list_all (λ l. has_line served l || missed l) ls ≡ true
all_missed served ms missed known [] h = refl
all_missed served ms missed known (l ∷ ls) h =
    let rest = list_all (λ l. has_line served l || (missed l || has_line ms l)) ls in
    let here = has_line served l || (missed l || has_line ms l) in
    and_from (has_line served l || missed l) (list_all (λ l. has_line served l || missed l) ls) (one_missed (has_line served l) (missed l) (has_line ms l) (known l) (and_first here rest h)) (all_missed served ms missed known ls (and_second here rest h))

-- an event leaves them
told_missed : {State Call : Type 0} (mac : Machine State Call) (w : World) (s : State) (origin : Origin Call) (e : Event) (t : Told) (p : FrameHistory) (missed : ℕ → Bool) → AreMissed p.missed missed → AreMissed (past_after mac w s origin e t p).missed missed
told_missed mac w s (Called c) Act t p missed known = known
told_missed mac w s (Entered l) Act t p missed known = known
told_missed mac w s (Called c) (Serve k) t p missed known = known
told_missed mac w s (Entered l) (Serve k) t p missed known = known
told_missed mac w s (Called c) (Abort u) t p missed known = known
told_missed mac w s (Entered l) (Abort u) t p missed known = known
told_missed mac w s (Called c) (Start u) t p missed known = known
told_missed mac w s (Entered l) (Start u) t p missed known = known

-- what a look adds, which is missed after the step
added : {State Call : Type 0} {g : SharedRefinement State Call} (x : PointAssertion g) (ready : ℕ → Bool) (past : FrameHistory) (missed : ℕ → Bool) → AreMissed past.missed missed → (Then : FrameHistory → Type 0) (Goal : Type 0)
    → ((ms : List ℕ) → AreMissed ms (λ l. missed l || not (ready l)) → Then (record past { missed = ms }) → Goal) → Adding x ready past Then → Goal
added (Within gap hs place) ready past missed known Then Goal by h = by past.missed (λ l e. or_left (missed l) (not (ready l)) (known l e)) h
added (Outside hs place) ready past missed known Then Goal by h = by past.missed (λ l e. or_left (missed l) (not (ready l)) (known l e)) h
added (Looking gap hs place) ready past missed known Then Goal by (inl h) = by past.missed (λ l e. or_left (missed l) (not (ready l)) (known l e)) h
added (Looking gap hs place) ready past missed known Then Goal by (inr (k, e, h)) = by (k ∷ past.missed) (missed_more ready missed k past.missed e known) h

module _ {State Call Asked Body : Type 0} (d : Services State Call Asked Body) {ends_with : Body → Option Answer} (law : AreEndingServices d ends_with) where
  top_of_waits : (held : List (ReservedBy Call d.basis.Reservation)) (chip : Chip) (w : World) (s : State) (f : Short Asked Body) (o : Open Call) → d.basis.represents (holds_by d f o held) d.basis.settled chip w s → Waits d held f o → IsTop d held chip w s f o
  top_of_waits held chip w s (Calling c) o a h = (a, h)
  top_of_waits held chip w s (Loading c) o a h = absurd h
  top_of_waits held chip w s (Entering k) o a h = (a, h)
  top_of_waits held chip w s (Inside k) o a h = record {
    past = h.past;
    form = h.form;
    behaves = h.behaves;
    window = h.window;
    written = h.written;
    missed = h.missed;
    at = (subst (λ x. d.basis.represents (with_holds o.origin x (holds_at (d.bodies.assertion k)) held) (gap_at (d.bodies.assertion k)) chip w s) (ap (λ x. x.acted) h.form) (subst (λ x. d.basis.represents (with_holds o.origin o.acted (holds_at (d.bodies.assertion k)) held) x chip w s) (sym (settled_at (d.bodies.assertion k) h.opened)) a), h.place (d.basis.foot chip) w s);
  }
  top_of_waits held chip w s (Opening n) o a h = absurd h
  top_of_waits held chip w s (Telling n) o a h = (a, h)
  top_of_waits held chip w s (Returning n) o a h = (a, h)

  -- what is below a frame that ends
  pub below : (chip : Chip) (w : World) (s : State) (ps : List (Short Asked Body × Open Call)) → d.basis.represents (holds_in d ps) d.basis.settled chip w s → AllWait d ps → Relates d chip w ps s
  below chip w s [] a h = a
  below chip w s (p ∷ ps) a h = (top_of_waits (holds_in d ps) chip w s p.0 p.1 a h.0, h.1, h.2)

-- ---- what a call's frame has written

-- of each of the kinds that its call owes a frame has made a write
abbrev Pays : {State Call Asked Body : Type 0} → Services State Call Asked Body → Origin Call → List Move → Type 0
Pays d (Called c) writes = AllMade (d.basis.setting.must c) writes
Pays d (Entered l) writes = Unit {0}

unless_made : (e : Option ErrorName) (must : List (Move → Bool)) (writes : List Move) → AllMade must writes → MadeUnless e must writes
unless_made None must writes h = h
unless_made (Some e) must writes h = tt

paid_made : {State Call Asked Body : Type 0} (d : Services State Call Asked Body) (origin : Origin Call) (writes : List Move) (at : Option ActedAt) → Pays d origin writes → HasMade d.basis.setting origin writes at
paid_made d (Called c) writes None h = tt
paid_made d (Called c) writes (Some at) h = unless_made at.error (d.basis.setting.must c) writes h
paid_made d (Entered l) writes at h = tt

module _ {State Call Asked Body : Type 0} (d : Services State Call Asked Body) {ends_with : Body → Option Answer} (law : AreEndingServices d ends_with) where
  -- what a step of a body makes of it
  abbrev GoesPaid : Origin Call → List Move → Body → Option Done → Type 0
  GoesPaid origin writes k None = HasWritten d k origin writes
  GoesPaid origin writes k (Some n) = Pays d origin writes

  call_paid : (c : Call) (writes : List Move) (k : Body) (left : Option Done) → WritesOn d c writes k left → GoesPaid (Called c) writes k left
  call_paid c writes k None h = h
  call_paid c writes k (Some n) h = h

  line_paid : (l : ℕ) (writes : List Move) (k : Body) (left : Option Done) → GoesPaid (Entered l) writes k left
  line_paid l writes k None = tt
  line_paid l writes k (Some n) = tt

  written_on : (held : List (ReservedBy Call d.basis.Reservation)) (chip : Chip) (w : World) (s : State) (k : Body) (origin : Origin Call) (past : FrameHistory) (writes : List Move) → AssertedAt d.basis d.bodies held chip w s k origin past → HasWritten d k origin writes → let p = d.bodies.takes k (value_of chip (d.bodies.work_of k)) in GoesPaid origin (writes_after writes (d.bodies.work_of k)) p.0 p.1.done
  written_on held chip w s k (Called c) past writes at has = let p = d.bodies.takes k (value_of chip (d.bodies.work_of k)) in call_paid c (writes_after writes (d.bodies.work_of k)) p.0 p.1.done (law.writes.steps held chip w s k c past writes at has)
  written_on held chip w s k (Entered l) past writes at has = let p = d.bodies.takes k (value_of chip (d.bodies.work_of k)) in line_paid l (writes_after writes (d.bodies.work_of k)) p.0 p.1.done

  stops_paid : (held : List (ReservedBy Call d.basis.Reservation)) (chip : Chip) (w : World) (s : State) (k : Body) (origin : Origin Call) (past : FrameHistory) (writes : List Move) (a : Answer) → AssertedAt d.basis d.bodies held chip w s k origin past → HasWritten d k origin writes → ended_at d.bodies ends_with k (value_of chip (d.bodies.work_of k)) ≡ Some a → Pays d origin writes
  stops_paid held chip w s k (Called c) past writes a at has ends = law.writes.stops held chip w s k c past writes a at has ends
  stops_paid held chip w s k (Entered l) past writes a at has ends = tt

  -- ---- what a step leaves waiting

  lines_after : (mac : Machine State Call) (w : World) (s : State) (origin : Origin Call) (e : Event) (t : Told) (p : FrameHistory) → ((past_after mac w s origin e t p).polled ≡ polled_by mac w s origin p.polled (Some e)) × ((past_after mac w s origin e t p).served ≡ served_by p.served (Some e))
  lines_after mac w s (Called c) Act t p = (refl, refl)
  lines_after mac w s (Entered l) Act t p = (refl, refl)
  lines_after mac w s (Called c) (Serve k) t p = (refl, refl)
  lines_after mac w s (Entered l) (Serve k) t p = (refl, refl)
  lines_after mac w s (Called c) (Abort u) t p = (refl, refl)
  lines_after mac w s (Entered l) (Abort u) t p = (refl, refl)
  lines_after mac w s (Called c) (Start u) t p = (refl, refl)
  lines_after mac w s (Entered l) (Start u) t p = (refl, refl)

  abbrev LeftOn : World → State → Origin Call → FrameHistory → Option Done → Type 0
  LeftOn w s1 origin past None = Unit {0}
  LeftOn w s1 origin past (Some n) = Leaves d.basis.setting.machine w s1 origin past.polled past.served n.owed

  abbrev LeftBy : World → State → (received : ℕ) → Origin Call → FrameHistory → Move → Option Event → Option Done → Type 0
  LeftBy w s received origin past made None left = LeftOn w s origin (past_wrote w made past) left
  LeftBy w s received origin past made (Some e) left = (s1 : State) (t : Told) (b : Option Begun) → outcome_of d.basis.setting.machine w s (happening_of origin (brought_by w past.committed made received) e) ≡ Some (outcome_with s1 t b) → LeftOn w s1 origin (past_after d.basis.setting.machine w s origin e t (past_wrote w made past)) left

  left_by : (w : World) (s : State) (received : ℕ) (origin : Origin Call) (past : FrameHistory) (made : Move) (e : Option Event) (left : Option Done) → ((n : Done) → left ≡ Some n → let mac = d.basis.setting.machine in Leaves mac w (state_by s (outcome_of mac w s (happening_at origin (brought_by w past.committed made received) e))) origin (polled_by mac w s origin past.polled e) (served_by past.served e) n.owed) → LeftBy w s received origin past made e left
  left_by w s received origin past made None None h = tt
  left_by w s received (Called c) past made None (Some n) h = h n refl
  left_by w s received (Entered l) past made None (Some n) h = h n refl
  left_by w s received origin past made (Some e) None h = λ s1 t b is. tt
  left_by w s received origin past made (Some e) (Some n) h = λ s1 t b is.
      let mac = d.basis.setting.machine in
      let lines = lines_after mac w s origin e t (past_wrote w made past) in
      subst (λ x. Leaves mac w s1 origin x (past_after mac w s origin e t (past_wrote w made past)).served n.owed) (sym lines.0)
      (subst (λ x. Leaves mac w s1 origin (polled_by mac w s origin past.polled (Some e)) x n.owed) (sym lines.1)
      (subst (λ x. Leaves mac w (state_by s x) origin (polled_by mac w s origin past.polled (Some e)) (served_by past.served (Some e)) n.owed) is (h n refl)))

  leaves_step : (held : List (ReservedBy Call d.basis.Reservation)) (chip : Chip) (w : World) (s : State) (k : Body) (origin : Origin Call) (received : ℕ) (past : FrameHistory) (ms : List ℕ) → AssertedAt d.basis d.bodies held chip w s k origin past → let p = d.bodies.takes k (value_of chip (d.bodies.work_of k)) in LeftBy w s received origin (record past { missed = ms }) (d.bodies.work_of k) p.1.event p.1.done
  leaves_step held chip w s k origin received past ms at = let p = d.bodies.takes k (value_of chip (d.bodies.work_of k)) in left_by w s received origin (record past { missed = ms }) (d.bodies.work_of k) p.1.event p.1.done (λ n e. law.starts.done held chip w s k origin received past n at e)

-- a step of each kind, over frames that wait
module _ {State Call Asked Body : Type 0} (d : Services State Call Asked Body) {ends_with : Body → Option Answer} (law : AreEndingServices d ends_with) (ps : List (Short Asked Body × Open Call)) (waits : AllWait d ps) (s : State) (w : World) (r : Open Call) (received : ℕ) where
  -- a frame that may end so is done
  stop_by : (rest : Open Call) (origin : Origin Call) (p : FrameHistory) (n : Done) → AreMissed p.missed rest.missed → MayStop d.basis origin p rest.missed n → LeavesRight d.basis.setting origin rest.reads rest.wrote rest.acted_at → HasMade d.basis.setting origin rest.writes rest.acted_at → MayOpen rest.since rest.acts_since → IsDone d.basis (having rest origin p true) n true
  stop_by rest (Called c) p n known h leaves paid ok = record { may = (h.may.0, all_missed p.served p.missed rest.missed known p.polled h.may.1); served = h.served; owed = h.owed; shown = h.shown; report = h.report; leaves = leaves; writes = paid; idle = λ e. absurd (cc); inside = refl; window = λ e. ok }
  stop_by rest (Entered l) p n known h leaves paid ok = record { may = h.may; served = h.served; owed = h.owed; shown = h.shown; report = h.report; leaves = leaves; writes = paid; idle = λ e. absurd (cc); inside = refl; window = λ e. ok }

  -- a refused call has polled no line
  refused_none : (c : Call) (polled : List ℕ) (o : Epilogue) → polled ≡ [] → Leaves d.basis.setting.machine w s (Called c) polled [] o
  refused_none c [] Nothing e = refl
  refused_none c [] (Error x) e = λ w1 s1. refl
  refused_none c [] (One k) e = λ w1 s1. refl
  refused_none c [] (Two k j) e = λ w1 s1. refl
  refused_none c (l ∷ ls) o e = absurd (cc)

  load_by : (chip : Chip) (c : Call) (x : ℕ) (l : Looked Body) → d.can c → d.looked (d.asked c) (value_of chip (Load d.word)) ≡ l → IsFresh r → IsOver d (Called c) r.tag (holds_in d ps) → d.basis.represents (holds_in d ps) d.basis.settled chip w s → Decides d (holds_in d ps) chip w s c l → Keeps (services_driver d) chip w s received (Loading (d.asked c)) (left_look l) (λ s1 o1. Relates d chip w (top_after (left_look l, o1) (gave_look l).ended ps) s1) (having r (Called c) fresh_history true) (Load d.word) x (gave_look l)
  load_by chip c x (Refused n) can looks fresh over represents h =
      let rest = rest_acted d.basis.setting.machine w s (having r (Called c) fresh_history true) (Load d.word) (Called c) Act h.told in
      let leaves = refused_leaves d.basis.setting (having r (Called c) fresh_history true) c d.word h.told n (record { wrote = fresh.wrote; reads = fresh.reads; writes = fresh.writes; acted = fresh.acted; since = fresh.since }) refl in
      event_step (services_driver d) chip w s received (Loading (d.asked c)) (Opening n) _ r (Called c) fresh_history (Load d.word) x Act s h.told None refl (sym h.reset) (law.own_word (Called c)) (look_fuel d.most d.bodies.fuel (d.asked c) (Refused n) tt) (look_room d.wide d.bodies.room (d.asked c) (Refused n) tt) refl tt (h.is _) tt leaves tt ((represents, stop_by rest (Called c) (past_after d.basis.setting.machine w s (Called c) Act h.told fresh_history) n (none_missed rest.missed) (record { may = (ap (λ x. Some x) h.tells.0, ap (list_all (λ l. has_line [] l || (rest.missed l || has_line [] l))) (h.polls)); served = false; owed = ap (owing false) h.tells.1; shown = λ e. absurd (cc); report = h.tells.2 }) leaves (subst (λ ms. MadeUnless h.told.error (d.basis.setting.must c) ms) (sym fresh.writes) (law.writes.refuses (holds_in d ps) chip w s c n h.told can represents looks h.is)) (λ i. or_right r.acts_since true refl), refused_none c (d.basis.setting.machine.polls w s c) n.owed h.polls), over, waits)
  load_by chip c x (Goes k) can looks fresh over represents h =
      let rest = rest_after d.basis.setting.machine w s (having r (Called c) fresh_history true) (Load d.word) in
      let before = fresh_behaves d.basis.setting true (having r (Called c) fresh_history true) (record { wrote = fresh.wrote; reads = fresh.reads; writes = fresh.writes; acted = fresh.acted; since = fresh.since }) in
      plain_step (services_driver d) chip w s received (Loading (d.asked c)) (Inside k) _ (with_past r fresh_history) (Called c) None [] [] None true (Load d.word) x refl refl refl (law.own_word (Called c)) (look_fuel d.most d.bodies.fuel (d.asked c) (Goes k) h.fuel) (λ e. look_room d.wide d.bodies.room (d.asked c) (Goes k) h.room) (sound_leaves d.basis.setting (Called c) _ _ r.acted_at before.acted) tt (record { past = fresh_history; form = ap (λ x. having rest (Called c) fresh_history x) (sym h.closed); behaves = goes_behaves d.basis.setting true (having r (Called c) fresh_history true) before (Load d.word) (d.bodies.clean k) (having rest (Called c) fresh_history true) (λ e. (refl, refl)) refl refl refl before.acted; window = seen_begins (d.seen k) (Load d.word ∷ r.since) (r.acts_since || false) (law.unseen (holds_in d ps) chip w s k c h.at) fresh.since; written = subst (λ ms. d.written k c ms) (sym fresh.writes) (law.writes.begins c (value_of chip (Load d.word)) k can looks); missed = none_missed rest.missed; at = h.at }, over, waits)

  -- what holds of the frame itself where its body goes on, and where it is done
  abbrev KeepsFrame : Open Call → Origin Call → FrameHistory → Bool → Body → Option Done → Type 0
  KeepsFrame rest origin past inside k None = Behaves d.basis.setting (d.bodies.clean k) (having rest origin past inside) × HasWritten d k origin rest.writes
  KeepsFrame rest origin past inside k (Some n) = LeavesRight d.basis.setting origin rest.reads rest.wrote rest.acted_at × HasMade d.basis.setting origin rest.writes rest.acted_at

  -- what it leaves waiting where it is done
  abbrev LeavesOn : State → Origin Call → FrameHistory → Option Done → Type 0
  LeavesOn s1 origin past left = LeftOn d law w s1 origin past left

  abbrev LeavesBy : Origin Call → FrameHistory → Move → Option Event → Option Done → Type 0
  LeavesBy origin past made e left = LeftBy d law w s received origin past made e left

  continue_by : (chip : Chip) (s1 : State) (rest : Open Call) (origin : Origin Call) (past : FrameHistory) (inside : Bool) (k : Body) (left : Option Done) → AreMissed past.missed rest.missed → IsOver d origin rest.tag (holds_in d ps) → StandsMasked inside (is_closed (d.bodies.assertion k)) left → KeepsFrame rest origin past inside k left → SeesOn (d.seen k) rest.since rest.acts_since left → LeavesOn s1 origin past left → Continues d.basis d.bodies (holds_in d ps) chip w s1 origin past rest.missed k left → Relates d chip w ((left_body k left, having rest origin past inside) ∷ ps) s1
  continue_by chip s1 rest origin past inside k None known over e kept on idle h = (record { past = past; form = ap (λ x. having rest origin past x) (sym e); behaves = kept.0; window = on; written = kept.1; missed = known; at = h }, over, waits)
  continue_by chip s1 rest origin past inside k (Some n) known over e kept on idle h = ((h.0, subst (λ x. IsDone d.basis (having rest origin past x) n true) (sym e) (stop_by rest origin past n known h.1 kept.0 kept.1 on), idle), over, waits)

  -- a step of a body
  abbrev KeepsBody : Chip → Chip → ℕ → Origin Call → FrameHistory → Bool → Move → Body → Body → Option Event → Option Done → Type 0
  KeepsBody chip chip1 x origin past was made k k1 e left = Keeps (services_driver d) chip w s received (Inside k) (left_body k1 left) (λ s1 o1. Relates d chip1 w ((left_body k1 left, o1) ∷ ps) s1) (having r origin past was) made x (does e)

  abbrev Fueled : Body → Body → Option Done → Type 0
  Fueled k k1 left = short_fuel d.most d.bodies.fuel (left_body k1 left) < short_fuel d.most d.bodies.fuel (Inside k)

  abbrev RestAfter : Origin Call → FrameHistory → Bool → Move → Open Call
  RestAfter origin past was made = rest_after d.basis.setting.machine w s (having r origin past was) made

  abbrev missed_then : ℕ → Bool
  missed_then = missed_after d.basis.setting.machine w s r.missed

  -- what is seen before the step, what the step owes of that, and what comes of it
  abbrev SeenAt : Body → Type 0
  SeenAt k = IsSeen (d.seen k) r.since r.acts_since

  abbrev SeesBy : Body → Bool → Move → Body → Option Event → Option Done → Type 0
  SeesBy k was made k1 e left = Sees (d.seen k) was made e (d.seen k1) left

  goes_seen : (k k1 : Body) (was : Bool) (made : Move) (e : Option Event) (left : Option Done) → (made ≡ Mask → is_act e ≡ false) → SeesBy k was made k1 e left → SeenAt k → SeesOn (d.seen k1) (since_after r.since made) (acts_after r.acts_since made e) left
  goes_seen k k1 was made e left n sees seen = sees_on (d.seen k) (d.seen k1) was r.since r.acts_since made e left n sees seen

  stays_together : (origin : Origin Call) (k k1 : Body) (was : Bool) (made : Move) (e : Option Event) (left : Option Done) → SeesBy k was made k1 e left → SeenAt k → WindowRight (is_beside_act d.basis.setting.machine origin) was r.since (r.acts_since || is_act e) made
  stays_together origin k k1 was made e left sees seen = window_right d.basis.setting.machine origin (d.seen k) (d.seen k1) was r.since r.acts_since made e left sees seen

  -- what a step keeps of what was written: a call's body goes on with it, or has made what its call owes
  abbrev KeepsOn : Origin Call → Body → Move → Body → Option Done → Type 0
  KeepsOn origin k made k1 left = KeepsClean (d.bodies.clean k) made (d.bodies.clean k1) left × GoesPaid d law origin (writes_after r.writes made) k1 left

  -- what holds of the frame itself before the step, and after one of each kind
  abbrev Before : Origin Call → FrameHistory → Bool → Body → Type 0
  Before origin past was k = Behaves d.basis.setting (d.bodies.clean k) (having r origin past was)

  leaves_plain : (origin : Origin Call) (past : FrameHistory) (was : Bool) (k : Body) (made : Move) → Before origin past was k → LeavesRight d.basis.setting origin (reads_after r.reads made) (r.wrote || is_write made) r.acted_at
  leaves_plain origin past was k made before = sound_leaves d.basis.setting origin (reads_after r.reads made) (r.wrote || is_write made) r.acted_at before.acted

  kept_plain : (origin : Origin Call) (past past1 : FrameHistory) (was is : Bool) (made : Move) (k k1 : Body) (left : Option Done) → Before origin past was k → KeepsOn origin k made k1 left → KeepsFrame (RestAfter origin past was made) origin past1 is k1 left
  kept_plain origin past past1 was is made k k1 None before cleans = (goes_behaves d.basis.setting (d.bodies.clean k) (having r origin past was) before made (d.bodies.clean k1) (having (RestAfter origin past was made) origin past1 is) cleans.0 refl refl refl before.acted, cleans.1)
  kept_plain origin past past1 was is made k k1 (Some n) before cleans = (leaves_plain origin past was k made before, paid_made d origin (writes_after r.writes made) r.acted_at cleans.1)

  leaves_event : (origin : Origin Call) (past : FrameHistory) (made : Move) (k k1 : Body) (e : Event) (t : Told) (left : Option Done) → Before origin past true k → ActsRight d.basis.setting origin e (d.bodies.clean k) made t left → LeavesRight d.basis.setting origin (reads_after r.reads made) (r.wrote || is_write made) (acted_then origin made e t r.acted_at)
  leaves_event origin past made k k1 e t None before acts = sound_leaves d.basis.setting origin (reads_after r.reads made) (r.wrote || is_write made) _ (goes_sound d.basis.setting (d.bodies.clean k) (having r origin past true) before made origin e t refl acts)
  leaves_event origin past made k k1 e t (Some n) before acts = ends_leaves d.basis.setting (d.bodies.clean k) (having r origin past true) before made origin e t n refl acts

  kept_event : (origin : Origin Call) (past past1 : FrameHistory) (made : Move) (k k1 : Body) (e : Event) (t : Told) (left : Option Done) → Before origin past true k → KeepsOn origin k made k1 left → ActsRight d.basis.setting origin e (d.bodies.clean k) made t left → KeepsFrame (rest_acted d.basis.setting.machine w s (having r origin past true) made origin e t) origin past1 true k1 left
  kept_event origin past past1 made k k1 e t None before cleans acts = (goes_behaves d.basis.setting (d.bodies.clean k) (having r origin past true) before made (d.bodies.clean k1) (having (rest_acted d.basis.setting.machine w s (having r origin past true) made origin e t) origin past1 true) cleans.0 refl refl refl (goes_sound d.basis.setting (d.bodies.clean k) (having r origin past true) before made origin e t refl acts), cleans.1)
  kept_event origin past past1 made k k1 e t (Some n) before cleans acts = (leaves_event origin past made k k1 e t (Some n) before acts, paid_made d origin (writes_after r.writes made) (acted_then origin made e t r.acted_at) cleans.1)

  -- a move of a register or a word
  works_by : (chip chip1 : Chip) (x : ℕ) (origin : Origin Call) (past : FrameHistory) (was : Bool) (made : Move) (k k1 : Body) (e : Option Event) (left : Option Done) → AreMissed past.missed missed_then → IsOver d origin r.tag (holds_in d ps) → SeenAt k → SeesBy k was made k1 e left → Before origin past was k → KeepsOn origin k made k1 left → is_shared made ≡ false → (e ≡ None → (resets_chip made ≡ false) × (begins_word made ≡ false)) → d.basis.setting.may origin made ≡ true → Fueled k k1 left → KeepsMask was (is_closed (d.bodies.assertion k1)) (d.bodies.room k) (d.bodies.room k1) e left → LeavesBy origin past made e left → Works d.basis d.bodies (holds_in d ps) chip chip1 w s origin made (d.bodies.clean k) x received past missed_then k1 e left → KeepsBody chip chip1 x origin past was made k k1 e left
  works_by chip chip1 x origin past true made k k1 None left known over seen sees before cleans p calm own fuel mask idle h = plain_step (services_driver d) chip w s received (Inside k) (left_body k1 left) _ (with_past r past) origin past.acted past.served past.owed past.report true made x p (calm refl).0 (calm refl).1 own fuel (λ e. body_room d.wide d.bodies.room (d.bodies.room k) k1 left (room_shortens (is_closed (d.bodies.assertion k1)) (d.bodies.room k) (d.bodies.room k1) None left mask)) (leaves_plain origin past true k made before) (stays_together origin k k1 true made None left sees seen) (continue_by chip1 s (RestAfter origin past true made) origin (past_wrote w made past) true k1 left known over (stands_masked (is_closed (d.bodies.assertion k1)) (d.bodies.room k) (d.bodies.room k1) None left mask) (kept_plain origin past (past_wrote w made past) true true made k k1 left before cleans) (goes_seen k k1 true made None left (not_mask made None p) sees seen) idle h)
  works_by chip chip1 x origin past true made k k1 (Some e) left known over seen sees before cleans p calm own fuel mask idle h = event_step (services_driver d) chip w s received (Inside k) (left_body k1 left) _ r origin past made x e h.state h.told h.begins p h.reset own fuel (body_room d.wide d.bodies.room (d.bodies.room k) k1 left (room_shortens (is_closed (d.bodies.assertion k1)) (d.bodies.room k) (d.bodies.room k1) (Some e) left mask)) h.may h.stands h.is h.sends (leaves_event origin past made k k1 e h.told left before h.acts) (stays_together origin k k1 true made (Some e) left sees seen) (continue_by chip1 h.state (rest_acted d.basis.setting.machine w s (having r origin past true) made origin e h.told) origin (past_after d.basis.setting.machine w s origin e h.told (past_wrote w made past)) true k1 left (told_missed d.basis.setting.machine w s origin e h.told (past_wrote w made past) missed_then known) over (stands_masked (is_closed (d.bodies.assertion k1)) (d.bodies.room k) (d.bodies.room k1) (Some e) left mask) (kept_event origin past (past_after d.basis.setting.machine w s origin e h.told (past_wrote w made past)) made k k1 e h.told left before cleans h.acts) (goes_seen k k1 true made (Some e) left (not_mask made (Some e) p) sees seen) (idle h.state h.told h.begins h.is) h.next)
  works_by chip chip1 x origin past false made k k1 None None known over seen sees before cleans p calm own fuel mask idle h = plain_step (services_driver d) chip w s received (Inside k) (Inside k1) _ (with_past r past) origin past.acted past.served past.owed past.report false made x p (calm refl).0 (calm refl).1 own fuel (λ e. absurd (cc)) (leaves_plain origin past false k made before) (stays_together origin k k1 false made None None sees seen) (continue_by chip1 s (RestAfter origin past false made) origin (past_wrote w made past) false k1 None known over mask (kept_plain origin past (past_wrote w made past) false false made k k1 None before cleans) (goes_seen k k1 false made None None (not_mask made None p) sees seen) tt h)
  works_by chip chip1 x origin past false made k k1 None (Some n) known over seen sees before cleans p calm own fuel mask idle h = absurd mask
  works_by chip chip1 x origin past false made k k1 (Some e) left known over seen sees before cleans p calm own fuel mask idle h = absurd mask

  -- the mask is closed
  shuts_by : (chip chip1 : Chip) (x : ℕ) (origin : Origin Call) (past : FrameHistory) (was : Bool) (k k1 : Body) (e : Option Event) (left : Option Done) → AreMissed past.missed missed_then → IsOver d origin r.tag (holds_in d ps) → SeenAt k → SeesBy k was Mask k1 e left → Before origin past was k → KeepsOn origin k Mask k1 left → Fueled k k1 left → (was ≡ false) × (is_closed (d.bodies.assertion k1) ≡ true) × (2 + d.bodies.room k1 ≤ d.basis.setting.window_of origin) × (e ≡ None) × (left ≡ None) → Continues d.basis d.bodies (holds_in d ps) chip1 w s origin past missed_then k1 None → KeepsBody chip chip1 x origin past was Mask k k1 e left
  shuts_by chip chip1 x origin past true k k1 e left known over seen sees before cleans fuel m h = let i = m.0 in absurd (cc)
  shuts_by chip chip1 x origin past false k k1 (Some e) left known over seen sees before cleans fuel m h = let i = m.3 in absurd (cc)
  shuts_by chip chip1 x origin past false k k1 None (Some n) known over seen sees before cleans fuel m h = let i = m.4 in absurd (cc)
  shuts_by chip chip1 x origin past false k k1 None None known over seen sees before cleans fuel m h = mask_step (services_driver d) chip w s received (Inside k) (Inside k1) _ (with_past r past) origin past.acted past.served past.owed past.report x fuel (let i = m.2 in omega (arith, i)) (leaves_plain origin past false k Mask before) (continue_by chip1 s (RestAfter origin past false Mask) origin past true k1 None known over m.1 (kept_plain origin past past false true Mask k k1 None before cleans) (goes_seen k k1 false Mask None None (λ i. refl) sees seen) tt h)

  -- the mask is opened
  opens_by : (chip chip1 : Chip) (x : ℕ) (origin : Origin Call) (past : FrameHistory) (was : Bool) (k k1 : Body) (e : Option Event) (left : Option Done) → AreMissed past.missed missed_then → IsOver d origin r.tag (holds_in d ps) → SeenAt k → SeesBy k was Unmask k1 e left → Before origin past was k → KeepsOn origin k Unmask k1 left → Fueled k k1 left → (was ≡ true) × (is_closed (d.bodies.assertion k1) ≡ false) × (e ≡ None) × (left ≡ None) → Continues d.basis d.bodies (holds_in d ps) chip1 w s origin past missed_then k1 None → KeepsBody chip chip1 x origin past was Unmask k k1 e left
  opens_by chip chip1 x origin past false k k1 e left known over seen sees before cleans fuel m h = let i = m.0 in absurd (cc)
  opens_by chip chip1 x origin past true k k1 (Some e) left known over seen sees before cleans fuel m h = let i = m.2 in absurd (cc)
  opens_by chip chip1 x origin past true k k1 None (Some n) known over seen sees before cleans fuel m h = let i = m.3 in absurd (cc)
  opens_by chip chip1 x origin past true k k1 None None known over seen sees before cleans fuel m h = unmask_step (services_driver d) chip w s received (Inside k) (Inside k1) _ (with_past r past) origin past.acted past.served past.owed past.report x fuel (omega arith) (leaves_plain origin past true k Unmask before) (stays_together origin k k1 true Unmask None None sees seen) (continue_by chip1 s (RestAfter origin past true Unmask) origin past false k1 None known over m.1 (kept_plain origin past past true false Unmask k k1 None before cleans) (goes_seen k k1 true Unmask None None (λ i. refl) sees seen) tt h)

  -- a notice, which is the next one that is owed
  notes_by : (chip chip1 : Chip) (x : ℕ) (rest : Open Call) (origin : Origin Call) (n : Notice) (by : Bool) (acted : Option Answer) (served : List ℕ) (owed others : List Owing) (report : Option DevError) (k k1 : Body) → owed ≡ record { notice = n; served = by } ∷ others → Fueled k k1 None → (by ≡ true → d.basis.setting.shows origin n chip s) → LeavesRight d.basis.setting origin (reads_after rest.reads (Note n)) (rest.wrote || is_write (Note n)) rest.acted_at → Relates d chip1 w ((Inside k1, form (rest_after d.basis.setting.machine w s (form rest origin acted served owed report false) (Note n)) origin acted served others report false) ∷ ps) s → Keeps (services_driver d) chip w s received (Inside k) (Inside k1) (λ s1 o1. Relates d chip1 w ((Inside k1, o1) ∷ ps) s1) (form rest origin acted served owed report false) (Note n) x goes
  notes_by chip chip1 x rest origin n by acted served owed others report k k1 is fuel shown leaves h = subst (λ q. Keeps (services_driver d) chip w s received (Inside k) (Inside k1) (λ s1 o1. Relates d chip1 w ((Inside k1, o1) ∷ ps) s1) (form rest origin acted served q report false) (Note n) x goes) (sym is) (note_step (services_driver d) chip w s received (Inside k) (Inside k1) _ rest origin acted served report n by others x fuel shown leaves h)

  tells_by : (chip chip1 : Chip) (x : ℕ) (origin : Origin Call) (past : FrameHistory) (was : Bool) (n : Notice) (k k1 : Body) (e : Option Event) (left : Option Done) → chip1 ≡ chip → AreMissed past.missed missed_then → IsOver d origin r.tag (holds_in d ps) → SeenAt k → SeesBy k was (Note n) k1 e left → Before origin past was k → KeepsOn origin k (Note n) k1 left → Fueled k k1 left → (was ≡ false) × (is_closed (d.bodies.assertion k1) ≡ false) × (e ≡ None) × (left ≡ None) → Notes d.basis d.bodies (holds_in d ps) chip1 w s origin n k1 past → KeepsBody chip chip1 x origin past was (Note n) k k1 e left
  tells_by chip chip1 x origin past true n k k1 e left still known over seen sees before cleans fuel m h = let i = m.0 in absurd (cc)
  tells_by chip chip1 x origin past false n k k1 (Some e) left still known over seen sees before cleans fuel m h = let i = m.2 in absurd (cc)
  tells_by chip chip1 x origin past false n k k1 None (Some q) still known over seen sees before cleans fuel m h = let i = m.3 in absurd (cc)
  tells_by chip chip1 x origin past false n k k1 None None still known over seen sees before cleans fuel m h = notes_by chip chip1 x (with_past r past) origin n h.served past.acted past.served past.owed h.others past.report k k1 h.is fuel (λ q. subst (λ c. d.basis.setting.shows origin n c s) still (h.shown q)) (leaves_plain origin past false k (Note n) before) (continue_by chip1 s (RestAfter origin past false (Note n)) origin (record past { owed = h.others }) false k1 None known over m.1 (kept_plain origin past (record past { owed = h.others }) false false (Note n) k k1 None before cleans) (goes_seen k k1 false (Note n) None None (λ i. absurd (cc)) sees seen) tt h.next)

  -- a body's step, by its move
  body_by : (chip chip1 : Chip) (x : ℕ) (origin : Origin Call) (past : FrameHistory) (was : Bool) (made : Move) (k k1 : Body) (e : Option Event) (left : Option Done) → chip1 ≡ chip_after chip made received → AreMissed past.missed missed_then → IsOver d origin r.tag (holds_in d ps) → SeenAt k → SeesBy k was made k1 e left → Before origin past was k → KeepsOn origin k made k1 left → is_shared made || d.basis.setting.may origin made ≡ true → (e ≡ None → (resets_chip made ≡ false) × (begins_word made ≡ false)) → Fueled k k1 left → TurnsMask (d.basis.setting.window_of origin) was (is_closed (d.bodies.assertion k1)) (d.bodies.room k) (d.bodies.room k1) made e left → LeavesBy origin past made e left → Makes d.basis d.bodies (holds_in d ps) chip chip1 w s origin made (d.bodies.clean k) x received past missed_then k1 e left → KeepsBody chip chip1 x origin past was made k k1 e left
  body_by chip chip1 x origin past was Mask k k1 e left is known over seen sees before cleans own calm fuel m idle h = shuts_by chip chip1 x origin past was k k1 e left known over seen sees before cleans fuel m h
  body_by chip chip1 x origin past was Unmask k k1 e left is known over seen sees before cleans own calm fuel m idle h = opens_by chip chip1 x origin past was k k1 e left known over seen sees before cleans fuel m h
  body_by chip chip1 x origin past was (Note n) k k1 e left is known over seen sees before cleans own calm fuel m idle h = tells_by chip chip1 x origin past was n k k1 e left is known over seen sees before cleans fuel m h
  body_by chip chip1 x origin past was (Report n) k k1 e left is known over seen sees before cleans own calm fuel m idle h = absurd h
  body_by chip chip1 x origin past was (Read n) k k1 e left is known over seen sees before cleans own calm fuel m idle h = works_by chip chip1 x origin past was (Read n) k k1 e left known over seen sees before cleans refl calm own fuel m idle h
  body_by chip chip1 x origin past was (Write n v) k k1 e left is known over seen sees before cleans own calm fuel m idle h = works_by chip chip1 x origin past was (Write n v) k k1 e left known over seen sees before cleans refl calm own fuel m idle h
  body_by chip chip1 x origin past was (Load n) k k1 e left is known over seen sees before cleans own calm fuel m idle h = works_by chip chip1 x origin past was (Load n) k k1 e left known over seen sees before cleans refl calm own fuel m idle h
  body_by chip chip1 x origin past was (Store n v) k k1 e left is known over seen sees before cleans own calm fuel m idle h = works_by chip chip1 x origin past was (Store n v) k k1 e left known over seen sees before cleans refl calm own fuel m idle h

  -- a body ends its frame itself, at the opening of the mask
  stopped : (rest : Open Call) (origin : Origin Call) (past : FrameHistory) (owed : List Owing) (report : Option DevError) (inside : Bool) (a : Answer) → AreMissed past.missed (missed_after d.basis.setting.machine w s rest.missed) → MayAnswer origin past (missed_after d.basis.setting.machine w s rest.missed) a → MayEnd origin (rest_after d.basis.setting.machine w s (form (with_past rest past) origin past.acted past.served owed report inside) Unmask) a
  stopped rest (Called c) past owed report inside a known h = (h.0, all_missed past.served past.missed (missed_after d.basis.setting.machine w s rest.missed) known past.polled h.1)
  stopped rest (Entered l) past owed report inside a known h = h

  leaves_by : (chip chip1 : Chip) (x : ℕ) (origin : Origin Call) (past : FrameHistory) (k : Body) (later : Short Asked Body) (owed : List Owing) (report : Option DevError) (a : Answer) → AreMissed past.missed missed_then → owed ≡ [] → report ≡ None → MayAnswer origin past missed_then a → WindowRight (is_beside_act d.basis.setting.machine origin) true r.since (r.acts_since || false) Unmask → Before origin past true k → HasMade d.basis.setting origin r.writes r.acted_at → LeavesNone d.basis.setting.machine w s origin past.polled past.served → d.basis.represents (holds_in d ps) d.basis.settled chip1 w s → Keeps (services_driver d) chip w s received (Inside k) later (λ s1 o1. Relates d chip1 w ps s1) (form (with_past r past) origin past.acted past.served owed report true) Unmask x (gave_body None (Some a))
  leaves_by chip chip1 x origin past k later owed report a known e f may together before paid idle represents = subst (λ y. Keeps (services_driver d) chip w s received (Inside k) later (λ s1 o1. Relates d chip1 w ps s1) (form (with_past r past) origin past.acted past.served y report true) Unmask x (gave_body None (Some a))) (sym e) (subst (λ y. Keeps (services_driver d) chip w s received (Inside k) later (λ s1 o1. Relates d chip1 w ps s1) (form (with_past r past) origin past.acted past.served [] y true) Unmask x (gave_body None (Some a))) (sym f) (leave_step (services_driver d) chip w s received (Inside k) later _ (with_past r past) origin past.acted past.served x a (stopped r origin past [] None true a known may) (omega arith) (omega arith) (leaves_plain origin past true k Unmask before) paid idle together (below d law chip1 w s ps represents waits)))

  ends_by : (chip chip1 : Chip) (x : ℕ) (origin : Origin Call) (past : FrameHistory) (was : Bool) (k k1 : Body) (e : Option Event) (left : Option Done) (a : Answer) → AreMissed past.missed missed_then → SeenAt k → SeesBy k was Unmask k1 e left → Before origin past was k → HasMade d.basis.setting origin r.writes r.acted_at → LeavesNone d.basis.setting.machine w s origin past.polled past.served → (was ≡ true) × (is_closed (d.bodies.assertion k1) ≡ false) × (e ≡ None) × (left ≡ None) → d.basis.represents (holds_in d ps) d.basis.settled chip1 w s → MayStop d.basis origin past missed_then (owes_nothing a) → Keeps (services_driver d) chip w s received (Inside k) (left_body k1 left) (λ s1 o1. Relates d chip1 w ps s1) (having r origin past was) Unmask x (gave_body e (Some a))
  ends_by chip chip1 x origin past false k k1 e left a known seen sees before paid idle m represents h = let i = m.0 in absurd (cc)
  ends_by chip chip1 x origin past true k k1 (Some e) left a known seen sees before paid idle m represents h = let i = m.2 in absurd (cc)
  ends_by chip chip1 x origin past true k k1 None left a known seen sees before paid idle m represents h = leaves_by chip chip1 x origin past k (left_body k1 left) past.owed past.report a known h.owed h.report h.may (stays_together origin k k1 true Unmask None left sees seen) before paid idle represents

  more_done : (origin : Origin Call) (acted : Option Answer) (served : List ℕ) (owed owed1 : List Owing) (report report1 : Option DevError) (inside inside1 : Bool) (made : Move) (a : Answer) → MayEnd origin (form r origin acted served owed report inside) a → MayEnd origin (form (rest_after d.basis.setting.machine w s (form r origin acted served owed report inside) made) origin acted served owed1 report1 inside1) a
  more_done (Called c) acted served owed owed1 report report1 inside inside1 made a m = may_more d.basis.setting.machine w s (form r (Called c) acted served owed report inside) made (Called c) a m
  more_done (Entered l) acted served owed owed1 report report1 inside inside1 made a m = may_more d.basis.setting.machine w s (form r (Entered l) acted served owed report inside) made (Entered l) a m

  open_by : (chip chip1 : Chip) (x : ℕ) (origin : Origin Call) (a : Answer) (owed : Epilogue) (by : Bool) (acted : Option Answer) (served : List ℕ) → IsOver d origin r.tag (holds_in d ps) → MayOpen r.since r.acts_since → LeavesRight d.basis.setting origin r.reads r.wrote r.acted_at → HasMade d.basis.setting origin r.writes r.acted_at → Leaves d.basis.setting.machine w s origin r.polled served owed → MayEnd origin (form r origin acted served (owing by (notices_in owed)) (error_in owed) true) a → (by ≡ true → AreShown d.basis origin (notices_in owed)) → d.basis.represents (holds_in d ps) d.basis.settled chip1 w s → Keeps (services_driver d) chip w s received (Opening (record { answer = a; owed = owed })) (left_open a owed) (λ s1 o1. Relates d chip1 w (top_after (left_open a owed, o1) (gave_open a owed).ended ps) s1) (form r origin acted served (owing by (notices_in owed)) (error_in owed) true) Unmask x (gave_open a owed)
  open_by chip chip1 x origin a Nothing by acted served over ok leaves paid idle m shown represents = leave_step (services_driver d) chip w s received _ _ _ r origin acted served x a (may_more d.basis.setting.machine w s (form r origin acted served [] None true) Unmask origin a m) (omega arith) (omega arith) (leaves_on d.basis.setting origin r.reads r.wrote r.acted_at leaves) paid idle (opens_right d.basis.setting.machine origin r.since r.acts_since false ok) (below d law chip1 w s ps represents waits)
  open_by chip chip1 x origin a (Error e) by acted served over ok leaves paid idle m shown represents = unmask_step (services_driver d) chip w s received _ _ _ r origin acted served [] (Some e) x (omega arith) (omega arith) (leaves_on d.basis.setting origin r.reads r.wrote r.acted_at leaves) (opens_right d.basis.setting.machine origin r.since r.acts_since false ok) ((represents, record { may = more_done origin acted served [] [] (Some e) (Some e) true false Unmask a m; served = by; owed = refl; shown = shown; report = refl; leaves = leaves_on d.basis.setting origin r.reads r.wrote r.acted_at leaves; writes = paid; idle = λ e. idle; inside = refl; window = λ e. absurd (cc) }), over, waits)
  open_by chip chip1 x origin a (One k) by acted served over ok leaves paid idle m shown represents = unmask_step (services_driver d) chip w s received _ _ _ r origin acted served (owing by (k ∷ [])) None x (omega arith) (omega arith) (leaves_on d.basis.setting origin r.reads r.wrote r.acted_at leaves) (opens_right d.basis.setting.machine origin r.since r.acts_since false ok) ((represents, record { may = more_done origin acted served (owing by (k ∷ [])) (owing by (k ∷ [])) None None true false Unmask a m; served = by; owed = refl; shown = shown; report = refl; leaves = leaves_on d.basis.setting origin r.reads r.wrote r.acted_at leaves; writes = paid; idle = λ e. idle; inside = refl; window = λ e. absurd (cc) }), over, waits)
  open_by chip chip1 x origin a (Two k j) by acted served over ok leaves paid idle m shown represents = unmask_step (services_driver d) chip w s received _ _ _ r origin acted served (owing by (k ∷ j ∷ [])) None x (omega arith) (omega arith) (leaves_on d.basis.setting origin r.reads r.wrote r.acted_at leaves) (opens_right d.basis.setting.machine origin r.since r.acts_since false ok) ((represents, record { may = more_done origin acted served (owing by (k ∷ j ∷ [])) (owing by (k ∷ j ∷ [])) None None true false Unmask a m; served = by; owed = refl; shown = shown; report = refl; leaves = leaves_on d.basis.setting origin r.reads r.wrote r.acted_at leaves; writes = paid; idle = λ e. idle; inside = refl; window = λ e. absurd (cc) }), over, waits)

  tell_by : (chip : Chip) (x : ℕ) (origin : Origin Call) (a : Answer) (owed : Epilogue) (by : Bool) (acted : Option Answer) (served : List ℕ) → IsOver d origin r.tag (holds_in d ps) → LeavesRight d.basis.setting origin r.reads r.wrote r.acted_at → HasMade d.basis.setting origin r.writes r.acted_at → ((w1 : World) (s1 : State) → LeavesNone d.basis.setting.machine w1 s1 origin r.polled served) → MayEnd origin (form r origin acted served (owing by (notices_in owed)) (error_in owed) false) a → (by ≡ true → AreShown d.basis origin (notices_in owed)) → d.basis.represents (holds_in d ps) d.basis.settled chip w s → Keeps (services_driver d) chip w s received (Telling (record { answer = a; owed = owed })) (left_told a owed) (λ s1 o1. Relates d (chip_after chip (tells d.word owed) received) w (top_after (left_told a owed, o1) (gave_told a owed).ended ps) s1) (form r origin acted served (owing by (notices_in owed)) (error_in owed) false) (tells d.word owed) x (gave_told a owed)
  tell_by chip x origin a Nothing by acted served over leaves paid idle m shown represents = last_step (services_driver d) chip w s received _ _ _ r origin acted served d.word x a (law.own_word origin) m (omega arith) (leaves_on d.basis.setting origin r.reads r.wrote r.acted_at leaves) paid (idle w s) (below d law chip w s ps represents waits)
  tell_by chip x origin a (Error e) by acted served over leaves paid idle m shown represents = report_step (services_driver d) chip w s received _ _ _ r origin acted served x a e m (omega arith) (leaves_on d.basis.setting origin r.reads r.wrote r.acted_at leaves) paid (idle w s) (below d law chip w s ps represents waits)
  tell_by chip x origin a (One k) by acted served over leaves paid idle m shown represents = note_step (services_driver d) chip w s received _ _ _ r origin acted served None k by [] x (omega arith) (λ e. (shown e).0 (holds_in d ps) chip w s represents) (leaves_on d.basis.setting origin r.reads r.wrote r.acted_at leaves) ((represents, record { may = more_done origin acted served (owing by (k ∷ [])) [] None None false false (Note k) a m; served = by; owed = refl; shown = λ e. tt; report = refl; leaves = leaves_on d.basis.setting origin r.reads r.wrote r.acted_at leaves; writes = paid; idle = λ e. idle; inside = refl; window = λ e. absurd (cc) }), over, waits)
  tell_by chip x origin a (Two k j) by acted served over leaves paid idle m shown represents = note_step (services_driver d) chip w s received _ _ _ r origin acted served None k by (owing by (j ∷ [])) x (omega arith) (λ e. (shown e).0 (holds_in d ps) chip w s represents) (leaves_on d.basis.setting origin r.reads r.wrote r.acted_at leaves) ((represents, record { may = more_done origin acted served (owing by (k ∷ j ∷ [])) (owing by (j ∷ [])) None None false false (Note k) a m; served = by; owed = refl; shown = λ e. (shown e).1; report = refl; leaves = leaves_on d.basis.setting origin r.reads r.wrote r.acted_at leaves; writes = paid; idle = λ e. idle; inside = refl; window = λ e. absurd (cc) }), over, waits)

  last_by : (chip : Chip) (x : ℕ) (origin : Origin Call) (a : Answer) (acted : Option Answer) (served : List ℕ) → LeavesRight d.basis.setting origin r.reads r.wrote r.acted_at → HasMade d.basis.setting origin r.writes r.acted_at → ((w1 : World) (s1 : State) → LeavesNone d.basis.setting.machine w1 s1 origin r.polled served) → MayEnd origin (form r origin acted served [] None false) a → d.basis.represents (holds_in d ps) d.basis.settled chip w s → KeepsAt d ends_with chip w received (Returning a) (form r origin acted served [] None false) ps s
  last_by chip x origin a acted served leaves paid idle m represents = last_step (services_driver d) chip w s received _ _ _ r origin acted served d.word (value_of chip (Load d.word)) a (law.own_word origin) m (omega arith) (leaves_on d.basis.setting origin r.reads r.wrote r.acted_at leaves) paid (idle w s) (below d law chip w s ps represents waits)

module _ {State Call Asked Body : Type 0} (d : Services State Call Asked Body) {ends_with : Body → Option Answer} (law : AreEndingServices d ends_with) where
  shared_by : (made : Move) → is_shared made ≡ true → (origin : Origin Call) (q : Bool) → d.basis.owns origin made ≡ q → d.basis.owns origin made ≡ false
  shared_by made f origin true e = let g : is_shared made ≡ false = law.basis.owns_plain origin made e in absurd (cc)
  shared_by made f origin false e = e

  mask_shared : Elsewhere d.basis Mask
  mask_shared origin = shared_by Mask refl origin (d.basis.owns origin Mask) refl

  unmask_shared : Elsewhere d.basis Unmask
  unmask_shared origin = shared_by Unmask refl origin (d.basis.owns origin Unmask) refl

  calling : (chip : Chip) (w : World) (received : ℕ) (c : Call) (o : Open Call) (ps : List (Short Asked Body × Open Call)) (s : State) → IsFresh o → d.can c → d.basis.represents (holds_in d ps) d.basis.settled chip w s → IsOver d (Called c) o.tag (holds_in d ps) → AllWait d ps → KeepsAt d ends_with chip w received (Calling (d.asked c)) (having o (Called c) fresh_history false) ps s
  calling chip w received c o ps s fresh can represents over waits = mask_step (services_driver d) chip w s received (Calling (d.asked c)) (Loading (d.asked c)) _ (with_past o fresh_history) (Called c) None [] [] None (value_of chip Mask) (omega arith) (let k = law.call_window c can in omega arith) (fresh_leaves d.basis.setting (Called c) o fresh) ((law.basis.agrees_apart (holds_in d ps) chip w s Mask received mask_shared represents, record { call = c; asks = refl; form = refl; fresh = record { wrote = (fresh_on o fresh).wrote; reads = fresh.reads; writes = fresh.writes; acted = fresh.acted; since = refl }; can = can }), over, waits)

  loading : (chip : Chip) (w : World) (received : ℕ) (c : Call) (o : Open Call) (ps : List (Short Asked Body × Open Call)) (s : State) → IsFresh o → d.can c → d.basis.represents (holds_in d ps) d.basis.settled chip w s → IsOver d (Called c) o.tag (holds_in d ps) → AllWait d ps → KeepsAt d ends_with chip w received (Loading (d.asked c)) (having o (Called c) fresh_history true) ps s
  loading chip w received c o ps s fresh can represents over waits = let x = value_of chip (Load d.word) in load_by d law ps waits s w o received chip c x (d.looked (d.asked c) x) can refl fresh over represents (law.looks (holds_in d ps) chip w s c can over.beside represents)

  -- a step of a body, which may end its frame with this answer
  inside : (chip : Chip) (w : World) (received : ℕ) (k : Body) (o : Open Call) (ps : List (Short Asked Body × Open Call)) (s : State) (past : FrameHistory) → AreMissed past.missed o.missed → IsOver d o.origin o.tag (holds_in d ps) → AllWait d ps → IsSeen (d.seen k) o.since o.acts_since → Behaves d.basis.setting (d.bodies.clean k) (having o o.origin past (is_closed (d.bodies.assertion k))) → AssertedAt d.basis d.bodies (holds_in d ps) chip w s k o.origin past → HasWritten d k o.origin o.writes → (q : Option Answer) → ended_at d.bodies ends_with k (value_of chip (d.bodies.work_of k)) ≡ q → RightOr d.basis d.bodies (holds_in d ps) chip w s k o.origin received past o.missed q → let made = d.bodies.work_of k in let t = d.bodies.takes k (value_of chip made) in Keeps (services_driver d) chip w s received (Inside k) (left_body t.0 t.1.done) (λ s1 o1. Relates d (chip_after chip made received) w (top_after (left_body t.0 t.1.done, o1) q ps) s1) (having o o.origin past (is_closed (d.bodies.assertion k))) made (value_of chip made) (gave_body t.1.event q)
  inside chip w received k o ps s past known over waits seen before at has None ends h = added (d.bodies.assertion k) (mac.ready w s) past o.missed known _ _ by h
    where
      mac : Machine State Call
      mac = d.basis.setting.machine

      made : Move
      made = d.bodies.work_of k

      x : ℕ
      x = value_of chip made

      t : Body × BodyTaken
      t = d.bodies.takes k x

      held : List (ReservedBy Call d.basis.Reservation)
      held = holds_in d ps

      -- with a line that isn't ready added to its past, or without one
      by : (ms : List ℕ) → AreMissed ms (missed_after mac w s o.missed) → MakesTo d.basis d.bodies held chip (chip_after chip made received) w s o.origin made (d.bodies.clean k) x received (record past { missed = ms }) (missed_after mac w s o.missed) t
          → Keeps (services_driver d) chip w s received (Inside k) (left_body t.0 t.1.done) (λ s1 o1. Relates d (chip_after chip made received) w ((left_body t.0 t.1.done, o1) ∷ ps) s1) (having o o.origin past (is_closed (d.bodies.assertion k))) made x (gave_body t.1.event None)
      by ms all makes = body_by d law ps waits s w o received chip (chip_after chip made received) x o.origin (record past { missed = ms }) (is_closed (d.bodies.assertion k)) made k t.0 t.1.event t.1.done refl all over seen (law.windows held chip w s k o.origin past at) before (law.bodies.cleans k x, written_on d law held chip w s k o.origin past o.writes at has) (law.bodies.own held chip w s k o.origin past at) (law.bodies.calm held chip w s k o.origin past at) (body_fuel d.most d.bodies.fuel (d.bodies.fuel k) t.0 t.1.done (law.bodies.shortens k x)) (law.bodies.turns held chip w s k o.origin past at) (leaves_step d law held chip w s k o.origin received past ms at) makes
  inside chip w received k o ps s past known over waits seen before at has (Some a) ends h =
      let made = d.bodies.work_of k in
      let x = value_of chip made in
      let t = d.bodies.takes k x in
      let was = is_closed (d.bodies.assertion k) in
      subst (λ m. TurnsMask (d.basis.setting.window_of o.origin) was (is_closed (d.bodies.assertion t.0)) (d.bodies.room k) (d.bodies.room t.0) m t.1.event t.1.done → Sees (d.seen k) was m t.1.event (d.seen t.0) t.1.done → Keeps (services_driver d) chip w s received (Inside k) (left_body t.0 t.1.done) (λ s1 o1. Relates d (chip_after chip m received) w ps s1) (having o o.origin past was) m x (gave_body t.1.event (Some a))) (sym h.0) (λ turns sees. ends_by d law ps waits s w o received chip (chip_after chip Unmask received) x o.origin past was k t.0 t.1.event t.1.done a (missed_on d.basis.setting.machine w s past.missed o.missed known) seen sees before (paid_made d o.origin o.writes o.acted_at (stops_paid d law (holds_in d ps) chip w s k o.origin past o.writes a at has ends)) (law.starts.stops (holds_in d ps) chip w s k o.origin past a at ends) turns h.1 h.2) (law.bodies.turns (holds_in d ps) chip w s k o.origin past at) (law.windows (holds_in d ps) chip w s k o.origin past at)

  pub short_steps : (chip : Chip) (w : World) (received : ℕ) (f : Short Asked Body) (o : Open Call) (ps : List (Short Asked Body × Open Call)) (s : State) → ComesRight chip w (short_move d.word d.bodies.work_of f) received → d.basis.count s < most_steps → Relates d chip w ((f, o) ∷ ps) s → KeepsAt d ends_with chip w received f o ps s
  short_steps chip w received (Calling a) o ps s come few h =
      let k = h.0.1 in
      let over = subst (λ x. IsOver d x o.tag (holds_in d ps)) (ap (λ x. x.origin) k.form) h.1 in
      subst (λ x. KeepsAt d ends_with chip w received (Calling a) x ps s) (sym k.form) (subst (λ x. KeepsAt d ends_with chip w received (Calling x) (having o (Called k.call) fresh_history false) ps s) (sym k.asks) (calling chip w received k.call o ps s k.fresh k.can h.0.0 over h.2))
  short_steps chip w received (Loading a) o ps s come few h =
      let k = h.0.1 in
      let over = subst (λ x. IsOver d x o.tag (holds_in d ps)) (ap (λ x. x.origin) k.form) h.1 in
      subst (λ x. KeepsAt d ends_with chip w received (Loading a) x ps s) (sym k.form) (subst (λ x. KeepsAt d ends_with chip w received (Loading x) (having o (Called k.call) fresh_history true) ps s) (sym k.asks) (loading chip w received k.call o ps s k.fresh k.can h.0.0 over h.2))
  short_steps chip w received (Entering k) o ps s come few h =
      let i = h.0.1 in
      let rest = rest_after d.basis.setting.machine w s (having o o.origin fresh_history false) Mask in
      subst (λ x. KeepsAt d ends_with chip w received (Entering k) x ps s) (sym i.form) (mask_step (services_driver d) chip w s received (Entering k) (Inside k) _ (with_past o fresh_history) o.origin None [] [] None (value_of chip Mask) (omega arith) (let j = i.can.room in omega arith) (fresh_leaves d.basis.setting o.origin o i.fresh) (record { past = fresh_history; form = ap (λ x. having rest o.origin fresh_history x) (sym i.can.closed); behaves = fresh_behaves d.basis.setting (d.bodies.clean k) (having rest o.origin fresh_history true) (record { wrote = (fresh_on o i.fresh).wrote; reads = i.fresh.reads; writes = i.fresh.writes; acted = i.fresh.acted; since = refl }); window = seen_start (d.seen k) i.can.unseen; written = i.written; missed = none_missed rest.missed; at = i.can.at (holds_in d ps) (chip_after chip Mask received) w s h.1.beside (law.basis.agrees_apart (holds_in d ps) chip w s Mask received mask_shared h.0.0) }, h.1, h.2))
  short_steps chip w received (Inside k) o ps s come few h =
      let i = h.0 in
      subst (λ y. KeepsAt d ends_with chip w received (Inside k) y ps s) (sym i.form) (inside chip w received k o ps s i.past i.missed h.1 h.2 i.window (subst (λ x. Behaves d.basis.setting (d.bodies.clean k) x) i.form i.behaves) i.at i.written (ended_at d.bodies ends_with k (value_of chip (d.bodies.work_of k))) refl (law.bodies.steps (holds_in d ps) chip w s k o.origin received i.past o.missed come few i.at))
  short_steps chip w received (Opening n) o ps s come few h =
      let k = h.0.1 in
      let e = form_is o (owing k.served (notices_in n.owed)) (error_in n.owed) true k.owed k.report k.inside in
      subst (λ x. KeepsAt d ends_with chip w received (Opening n) x ps s) (sym e) (open_by d law ps h.2 s w o received chip (chip_after chip Unmask received) (value_of chip Unmask) o.origin n.answer n.owed k.served o.acted o.served h.1 (k.window refl) k.leaves k.writes h.0.2 (subst (λ x. MayEnd o.origin x n.answer) e k.may) k.shown (law.basis.agrees_apart (holds_in d ps) chip w s Unmask received unmask_shared h.0.0))
  short_steps chip w received (Telling n) o ps s come few h =
      let k = h.0.1 in
      let e = form_is o (owing k.served (notices_in n.owed)) (error_in n.owed) false k.owed k.report k.inside in
      subst (λ x. KeepsAt d ends_with chip w received (Telling n) x ps s) (sym e) (tell_by d law ps h.2 s w o received chip (value_of chip (tells d.word n.owed)) o.origin n.answer n.owed k.served o.acted o.served h.1 k.leaves k.writes (k.idle refl) (subst (λ x. MayEnd o.origin x n.answer) e k.may) k.shown h.0.0)
  short_steps chip w received (Returning a) o ps s come few h =
      let k = h.0.1 in
      let e = form_is o [] None false k.owed k.report k.inside in
      subst (λ x. KeepsAt d ends_with chip w received (Returning a) x ps s) (sym e) (last_by d law ps h.2 s w o received chip 0 o.origin a o.acted o.served k.leaves k.writes (k.idle refl) (subst (λ x. MayEnd o.origin x a) e k.may) h.0.0)
