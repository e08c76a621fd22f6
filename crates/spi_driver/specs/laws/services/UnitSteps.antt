-- Frames of units: their steps where they owe nothing.
-- From services.UnitFrames, spi_sequences: services.UnitSteps, spi_laws: serving.services.ServeRight and 13 more.
-- Used by services.UnitRight.
use Rattle.std.proofs.Common.{◌≡◌, ◌+◌, ◌<◌, ◌&&◌, ◌||◌, [], ◌∷◌, ◌++◌, ◌∙◌, ◌⊎◌, if◌then◌else◌}
use Rattle.spi_driver.specs.Terms
use Terms.{ActsRight, After, after_serve, after_start, ap, arith, asks_reset, AssertedAt, basis_right, BodyTaken}
use Terms.{Bool, Brought, brought_by, Call, Called, caller_of, cases, Chip, chip_after, clear_over, CommitsTo}
use Terms.{Continues, Done, Entered, Event, false, first_served, FitsSpi, FrameHistory, FrameRole, fresh_history}
use Terms.{Handler, happening_of, has_line, inl, inr, is_polling, is_shared, is_some, is_sync_unit, IsNext, IsSome}
use Terms.{List, list_all, list_any, Load, Main, main_over, MakesTo, Mask, MayDo, missed_after, Move, no_answer, None}
use Terms.{none_owed, none_served, not, Note, Notes, notes, Notice, number_of, opened, Option, or_right, Origin}
use Terms.{Outcome, outcome_of, outcome_with, Owing, owing, passes, past_after, past_wrote, plain_makes, plain_move}
use Terms.{polls, ready, refl, Report, Reservations, resets_chip, Rest, rest_after, same_number, serve_ahead}
use Terms.{serve_may, serve_move, serve_owes, serve_place, serve_takes, ServeHappens, ServeLeaves, ServeOwes}
use Terms.{ServePlace, Serves, ServeStep, Some, spi_basis, spi_machine, spi_owing, spi_setting, SpiRepresents}
use Terms.{SpiState, SpiTable, StandsAt, start-received, start_may, start_move, start_owes, start_place, start_right}
use Terms.{start_takes, StartBegins, Started, StartLeaves, StartPlace, Starts, StartsUncalled, STATE, steps_right}
use Terms.{subst, suc, sym, tells_nothing, Told, told_first, told_next, Transmit, true, unit_acts, unit_named}
use Terms.{unit_over, UnitBody, UnitPlace, Units, Unmask, value_of, where_owed, whether_as, with_holds, word_of}
use Terms.{Works, World, zero, ℕ}
use Rattle.spi_driver.specs.laws.services.UnitFrames.{Frame, Handles, HasDone, IsFor, Mains, OpensAt, OwedAt}
use Rattle.spi_driver.specs.laws.services.UnitFrames.{Progress, Rests, Transmits, ahead_holds, and_other, at}
use Rattle.spi_driver.specs.laws.services.UnitFrames.{holds_by, is_met, opens_holds, served_ahead, told_list}
use Rattle.spi_driver.specs.laws.services.UnitFrames.{unit_bodies, with_cleared, with_debt, StandBy, foot}
use Rattle.spi_driver.specs.laws.bookkeeping.MainFunctionHold.{handling_begins, handling_of, handling_over}
use Rattle.spi_driver.specs.laws.bookkeeping.PendingWritesRight.{main_stops, passes_on}
use Rattle.mcal_base.specs.declared.moves.Event.TheVariants as events
use Rattle.mcal_base.specs.declared.moves.Unit as units
use Rattle.spi_machine.specs.declared.call.Call.TheVariants as calls
use Rattle.spi_sequences.specs.declared.service.serve.ServePlace.TheVariants as serve
use Rattle.spi_sequences.specs.declared.service.serve.ServeStep.TheVariants as steps
use Rattle.spi_sequences.specs.declared.service.start.StartPlace.TheVariants as start
use Rattle.spi_sequences.specs.declared.service.start.Started.TheVariants as started
use Rattle.spi_sequences.specs.declared.service.unit.After.TheVariants as after
use Rattle.spi_sequences.specs.declared.service.unit.UnitPlace.TheVariants as place

-- ---- lines that were served

met_still : (t t1 : FrameHistory) (l : ℕ) → t1.served ≡ t.served → t1.missed ≡ t.missed → is_met t l ≡ true → is_met t1 l ≡ true
met_still t t1 l s m h = ap (λ ls. has_line ls l || has_line t1.missed l) s ∙ ap (λ ls. has_line t.served l || has_line ls l) m ∙ h

-- the first line stays met where the second one is served
met_too : (t t1 : FrameHistory) → t1.served ≡ 27 ∷ t.served → t1.missed ≡ t.missed → is_met t 26 ≡ true → is_met t1 26 ≡ true
met_too t t1 s m h = ap (λ ls. has_line ls 26 || has_line t1.missed 26) s ∙ ap (λ ls. has_line t.served 26 || has_line ls 26) m ∙ h

-- with its line served, the frame is done with the unit
served_now : (d : SpiTable) (e : FrameRole) (u : ℕ) → u < 2 → (t t1 : FrameHistory) → t1.served ≡ (26 + u) ∷ t.served → t1.missed ≡ t.missed → Progress d e u false t → Progress d e u true t1
served_now d Handler u lt t t1 s m h = s ∙ ap (λ ls. (26 + u) ∷ ls) h
served_now d Main zero lt t t1 s m h = (
  ap (λ ls. has_line ls 26 || has_line t1.missed 26) s,
  ap (λ ls. has_line ls 27) (s ∙ ap (λ ls. 26 ∷ ls) h.0),
  λ sync. ap (λ ls. has_line ls 27 || has_line t1.missed 27) s ∙ ap (λ ls. has_line t.served 27 || has_line ls 27) m ∙ h.1 sync,
)
served_now d Main (suc zero) lt t t1 s m h = (met_too t t1 s m h.0, ap (λ ls. has_line ls 27 || has_line t1.missed 27) s, ap (λ ls. has_line ls 26) (s ∙ ap (λ ls. 27 ∷ ls) h.1))
served_now d Main (suc (suc u)) lt t t1 s m h = absurd (omega (arith, lt))
served_now d Rest (suc zero) lt t t1 s m h = (met_too t t1 s m h.0, ap (λ ls. has_line ls 27 || has_line t1.missed 27) s)
served_now d Rest (suc (suc u)) lt t t1 s m h = absurd (omega (arith, lt))
served_now d _ _ lt t t1 s m h = absurd h

-- a line is met that was missed now
just_missed : (t : FrameHistory) (l : ℕ) → is_met (record t { missed = l ∷ t.missed }) l ≡ true
just_missed t l = or_right (has_line t.served l) _ (ap (λ q. q || has_line t.missed l) (same_number l))

-- the first unit wasn't served at a place that owes no moves
rest_missed : (p : ServePlace) → serve_owes p ≡ false → rest_after (place.Serve p) ≡ Main
rest_missed (serve.Stand q) e = absurd (cc)
rest_missed _ e = refl

-- the main function may serve the unit's line
next_line : (d : SpiTable) (u : ℕ) → u < 2 → (s : SpiState) (t : FrameHistory) → is_polling s.mode ≡ true → Progress d Main u false t → IsNext (polls s calls.MainFunctionHandling) t.served (26 + u)
next_line d zero lt s t e h = subst (λ (q : Bool). IsNext (if q then 26 ∷ 27 ∷ [] else []) t.served 26) (sym e) (refl, ap (λ ls. list_any (has_line ls) (26 ∷ 27 ∷ [])) h.0)
next_line d (suc zero) lt s t e h = subst (λ (q : Bool). IsNext (if q then 26 ∷ 27 ∷ [] else []) t.served 27) (sym e) (refl, ap (λ ls. list_any (has_line ls) (27 ∷ [])) h.1)
next_line d (suc (suc u)) lt s t e h = absurd (omega (arith, lt))

-- and that of the second unit after the first one's
rest_line : (d : SpiTable) (u : ℕ) → u < 2 → (s : SpiState) (t : FrameHistory) → is_polling s.mode ≡ true → Progress d Rest u false t → IsNext (polls s calls.MainFunctionHandling) t.served (26 + u)
rest_line d zero lt s t e h = absurd h
rest_line d (suc zero) lt s t e h = subst (λ (q : Bool). IsNext (if q then 26 ∷ 27 ∷ [] else []) t.served 27) (sym e) (refl, ap (λ q. q || false) h.1)
rest_line d (suc (suc u)) lt s t e h = absurd (omega (arith, lt))

second_holds : (q : Bool) {z : Bool} → q ≡ false → q || z ≡ true → z ≡ true
second_holds true i j = absurd (cc)
second_holds false i j = j

-- ---- events of a unit, whatever the frame was begun for

module _ (d : SpiTable) (w : World) (s : SpiState) (t : FrameHistory) where
  started_is : (o : Origin Call) (b : Brought) (v : units.Unit) → happening_of o b (events.Start v) ≡ Some (Starts v (caller_of o) b.received)
  started_is (Called c) b v = refl
  started_is (Entered l) b v = refl

  served_is : (o : Origin Call) (b : Brought) (k : ℕ) → happening_of o b (events.Serve k) ≡ Some (Serves k b.received)
  served_is (Called c) b k = refl
  served_is (Entered l) b k = refl

  -- the job that starts is one of a requested sequence, whoever starts it
  may_start : (o : Origin Call) (v : units.Unit) (y : ℕ) → t.owed ≡ [] → IsSome ((spi_machine d).happens w s (Starts v None y)) → MayDo (spi_machine d) w s t (events.Start v) o
  may_start o v y none some =
      (none, elim t.acted as (λ a. StartsUncalled (spi_machine d) w s v a) [ None ↦ tt | Some answer ↦ (λ r. start-received d w s (number_of v) y r some) ])

  start_acts : (o : Origin Call) (v : units.Unit) (made : Move) (told : Told) (left : Option Done) → ActsRight (spi_setting d) o (events.Start v) false made told left
  start_acts (Called c) v made told left = tt
  start_acts (Entered l) v made told left = tt

  serve_acts : (o : Origin Call) (k : ℕ) (made : Move) (told : Told) (left : Option Done) → ActsRight (spi_setting d) o (events.Serve k) false made told left
  serve_acts (Called c) k made told left = tt
  serve_acts (Entered l) k made told left = tt

  start_resets : (o : Origin Call) (v : units.Unit) (out : Option (Outcome SpiState)) → asks_reset (spi_machine d) o (Some (events.Start v)) out ≡ false
  start_resets (Called c) v out = refl
  start_resets (Entered l) v out = refl

  serve_resets : (o : Origin Call) (k : ℕ) (out : Option (Outcome SpiState)) → asks_reset (spi_machine d) o (Some (events.Serve k)) out ≡ false
  serve_resets (Called c) k out = refl
  serve_resets (Entered l) k out = refl

  past_started : (o : Origin Call) (v : units.Unit) (told : Told) (p : FrameHistory) → past_after (spi_machine d) w s o (events.Start v) told p ≡ record p { owed = p.owed ++ owing false told.notices }
  past_started (Called c) v told p = refl
  past_started (Entered l) v told p = refl

  past_served : (o : Origin Call) (k : ℕ) (told : Told) (p : FrameHistory) → past_after (spi_machine d) w s o (events.Serve k) told p ≡ record p { served = k ∷ p.served; owed = p.owed ++ owing true told.notices }
  past_served (Called c) k told p = refl
  past_served (Entered l) k told p = refl

-- what was served and missed stays so where nothing is added
same_progress : (d : SpiTable) (e : FrameRole) (u : ℕ) (q : Bool) (t t1 : FrameHistory) → t1.served ≡ t.served → t1.missed ≡ t.missed → Progress d e u q t → Progress d e u q t1
same_progress d (Transmit n) u true t t1 s m h = tt
same_progress d Handler u false t t1 s m h = s ∙ h
same_progress d Handler u true t t1 s m h = s ∙ h
same_progress d Main zero false t t1 s m h = (s ∙ h.0, λ sync. met_still t t1 27 s m (h.1 sync))
same_progress d Main zero true t t1 s m h = (met_still t t1 26 s m h.0, ap (λ ls. has_line ls 27) s ∙ h.1, λ sync. met_still t t1 27 s m (h.2 sync))
same_progress d Main (suc u) false t t1 s m h = (met_still t t1 26 s m h.0, s ∙ h.1)
same_progress d Main (suc u) true t t1 s m h = (met_still t t1 26 s m h.0, met_still t t1 27 s m h.1, ap (λ ls. has_line ls 26) s ∙ h.2)
same_progress d Rest (suc u) false t t1 s m h = (met_still t t1 26 s m h.0, ap (λ ls. has_line ls 27) s ∙ h.1)
same_progress d Rest (suc u) true t t1 s m h = (met_still t t1 26 s m h.0, met_still t t1 27 s m h.1)
same_progress d _ _ _ t t1 s m h = absurd h

-- so does what a frame has done, with other notices owed
same_done : (d : SpiTable) (e : FrameRole) (u : ℕ) (q : Bool) (t t1 : FrameHistory) (owed owed1 : List Owing) → t1.acted ≡ t.acted → t1.polled ≡ t.polled → t1.report ≡ t.report → t1.served ≡ t.served → t1.missed ≡ t.missed → t1.owed ≡ owed1 → HasDone d e u q owed t → HasDone d e u q owed1 t1
same_done d e u q t t1 owed owed1 acted polled report served missed told h = record { acted = acted ∙ h.acted; polled = polled ∙ h.polled; report = report ∙ h.report; owed = told; progress = same_progress d e u q t t1 served missed h.progress }

module _ (d : SpiTable) (fits : FitsSpi d) where
  -- a move of the mask changes nothing
  pub shared_agrees : (held : Reservations) (chip : Chip) (w : World) (s : SpiState) (made : Move) (y : ℕ) → is_shared made ≡ true → SpiRepresents d held chip w s → SpiRepresents d held (chip_after chip made y) w s
  shared_agrees held chip w s Mask y e h = (basis_right d fits).agrees_apart held chip w s Mask y (λ o. refl) h
  shared_agrees held chip w s Unmask y e h = (basis_right d fits).agrees_apart held chip w s Unmask y (λ o. refl) h
  shared_agrees held chip w s (Note n) y e h = (basis_right d fits).agrees_apart held chip w s (Note n) y (λ o. refl) h
  shared_agrees held chip w s (Report n) y e h = (basis_right d fits).agrees_apart held chip w s (Report n) y (λ o. refl) h
  shared_agrees held chip w s _ y e h = absurd (cc)

  -- ---- where a frame stands

  abbrev StandAt : Reservations → Chip → World → SpiState → UnitBody → Origin Call → FrameHistory → Type 0
  StandAt below chip w s k o t = AssertedAt (spi_basis d) (unit_bodies d) below chip w s k o t

  -- at a place of its serving that owes nothing
  pub serve_stands : (e : FrameRole) (u : ℕ) (p : ServePlace) (below : Reservations) (chip : Chip) (w : World) (s : SpiState) (o : Origin Call) (t : FrameHistory) → serve_owes p ≡ false → Frame d d e u o → HasDone d e u false [] t → SpiRepresents d (with_holds o t.acted (holds_by e) below) chip w s → serve_place d u p (foot d chip) w s
      → StandAt below chip w s (at d e u (place.Serve p)) o t
  serve_stands e u p below chip w s o t i frame done h here = subst (λ q. StandBy d below chip w s (at d e u (place.Serve p)) o t (where_owed q (Units (at d e u (place.Serve p))))) (sym i) (by p here)
    where
      by : (p : ServePlace) → serve_place d u p (foot d chip) w s → StandBy d below chip w s (at d e u (place.Serve p)) o t None
      by serve.Shut here = (h, (frame, done))
      by _ here = (h, (here, frame, done))

  -- and of its start
  pub start_stands : (e : FrameRole) (u : ℕ) (p : StartPlace) (below : Reservations) (chip : Chip) (w : World) (s : SpiState) (o : Origin Call) (t : FrameHistory) → start_owes p ≡ false → Frame d d e u o → HasDone d e u true [] t → SpiRepresents d (with_holds o t.acted (with_debt e u) below) chip w s → start_place d u p (foot d chip) s
      → StandAt below chip w s (at d e u (place.Start p)) o t
  start_stands e u p below chip w s o t i frame done h here = subst (λ q. StandBy d below chip w s (at d e u (place.Start p)) o t (where_owed q (Units (at d e u (place.Start p))))) (sym i) (by p here)
    where
      by : (p : StartPlace) → start_place d u p (foot d chip) s → StandBy d below chip w s (at d e u (place.Start p)) o t None
      by start.Shut here = (h, (frame, done))
      by _ here = (h, (here, frame, done))

  -- ---- a step that names a register or a word

  module _ (below : Reservations) (chip : Chip) (w : World) (s : SpiState) (y : ℕ) (m : ℕ → Bool) where
    abbrev Work : Origin Call → FrameHistory → Move → (value : ℕ) → UnitBody × BodyTaken → Type 0
    Work o t made value r = Works (spi_basis d) (unit_bodies d) below chip (chip_after chip made y) w s o made false value y t m r.0 r.1.event r.1.done

    -- a window that is over goes on without an event
    over_works : (e : FrameRole) (u : ℕ) (p q : UnitPlace) (made : Move) (value : ℕ) (o : Origin Call) (t : FrameHistory) → let r = unit_over (at d e u p) q e u in Continues (spi_basis d) (unit_bodies d) below (chip_after chip made y) w s o (past_wrote w made t) m r.0 r.1.done → Work o t made value r
    over_works Main zero p q made value o t h = by (is_sync_unit d 1) h
      where
        by : (z : Bool) → let r = main_over (at d Main 0 p) q z in Continues (spi_basis d) (unit_bodies d) below (chip_after chip made y) w s o (past_wrote w made t) m r.0 r.1.done → Work o t made value r
        by true h = h
        by false h = h
    over_works _ _ p q made value o t h = h

    -- the first word of a job begins
    begins_so : (e : FrameRole) (u : ℕ) (q : StartPlace) (x : Event) (made : Move) (value : ℕ) (o : Origin Call) (t : FrameHistory) → Frame d d e u o → HasDone d e u true [] t → resets_chip made ≡ false → StartBegins d e (with_holds o t.acted (with_cleared e u) below) u chip (chip_after chip made y) w s made y q x
        → Work o t made value (at d e u (place.Start q), passes (Some x))
    begins_so e u q x made value o t frame done still g =
        let later : FrameHistory = record (past_wrote w made t) { owed = t.owed ++ owing false [] } in
        subst (λ z. Work o t made value (at d e u (place.Start q), passes (Some z))) (sym g.is_start) (record {
          may = may_start d w s t o (unit_named u) y done.owed (ap is_some (g.is None));
          stands = subst (λ z. StandsAt z made value) g.is_start (g.stands value);
          state = g.state;
          told = tells_nothing;
          begins = Some g.begins;
          is = ap (outcome_of (spi_machine d) w s) (started_is d w s t o (brought_by w t.committed made y) (unit_named u)) ∙ g.is (caller_of o);
          sends = g.sends;
          acts = start_acts d w s t o (unit_named u) made tells_nothing None;
          reset = still ∙ sym (start_resets d w s t o (unit_named u) (Some (outcome_with g.state tells_nothing (Some g.begins))));
          next = subst (λ z. Continues (spi_basis d) (unit_bodies d) below (chip_after chip made y) w g.state o z m (at d e u (place.Start q)) None) (sym (past_started d w s t o (unit_named u) tells_nothing (past_wrote w made t)))
              (subst (λ z. StandBy d below (chip_after chip made y) w g.state (at d e u (place.Start q)) o later (where_owed z (Units (at d e u (place.Start q))))) (sym g.owing) (g.owes, (frame, same_done d e u true t later [] [] refl refl refl refl refl (ap (λ ns. ns ++ []) done.owed) done)));
        })

    start_works : (e : FrameRole) (u : ℕ) (p : StartPlace) (made : Move) (value : ℕ) (o : Origin Call) (t : FrameHistory) → Frame d d e u o → HasDone d e u true [] t → resets_chip made ≡ false → (z : StartPlace × Started) → StartLeaves d e (with_holds o t.acted (holds_by e) below) o t.acted u chip (chip_after chip made y) w s made y z
        → Work o t made value (after_start (at d e u (place.Start p)) z)
    start_works e u p made value o t frame done still (r, started.Goes None) (h, here) = start_stands e u r below (chip_after chip made y) w s o (past_wrote w made t) (none_owed d u r (foot d (chip_after chip made y)) s here) frame (same_done d e u true t (past_wrote w made t) [] [] refl refl refl refl refl done.owed done) h here
    start_works e u p made value o t frame done still (r, started.Over) h = over_works e u (place.Start p) (place.Start r) made value o t (passes_on d d e u (place.Start p) (place.Start r) below (chip_after chip made y) w s o (past_wrote w made t) m refl frame (same_done d e u true t (past_wrote w made t) [] [] refl refl refl refl refl done.owed done) h)
    start_works e u p made value o t frame done still (r, started.Goes (Some x)) g = begins_so e u r x made value o t frame done still g

    -- the word is served
    may_serve : (e : FrameRole) (u : ℕ) (o : Origin Call) (t : FrameHistory) → u < 2 → IsFor u e o → Progress d e u false t → t.owed ≡ [] → SpiRepresents d (with_holds o t.acted (holds_by e) below) chip w s → MayDo (spi_machine d) w s t (events.Serve (26 + u)) o
    may_serve (Transmit q) u _ t lt (Transmits _) done none h = absurd done
    may_serve Handler u _ t lt Handles done none h = (refl, done)
    may_serve Main u _ t lt Mains done none h = (next_line d u lt s t h.right.0 done, none)
    may_serve Rest u _ t lt Rests done none h = (rest_line d u lt s t h.right.1.0 done, none)

    serves_so : (e : FrameRole) (u : ℕ) (q : ServePlace) (x : Event) (made : Move) (value : ℕ) (o : Origin Call) (t : FrameHistory) → Frame d d e u o → HasDone d e u false [] t → SpiRepresents d (with_holds o t.acted (holds_by e) below) chip w s → resets_chip made ≡ false
        → ServeHappens d e (with_holds o t.acted (holds_by e) below) u chip (chip_after chip made y) w s made y q x → Work o t made value (at d e u (place.Serve q), passes (Some x))
    serves_so e u q x made value o t frame done h still g =
        subst (λ z. Work o t made value (at d e u (place.Serve q), passes (Some z))) (sym g.is_serve) (record {
          may = may_serve e u o t frame.small frame.of done.progress done.owed h;
          stands = tt;
          state = g.state;
          told = notes g.notices;
          begins = g.begins;
          is = ap (outcome_of (spi_machine d) w s) (served_is d w s t o (brought_by w t.committed made y) (26 + u)) ∙ g.is;
          sends = g.sends;
          acts = serve_acts d w s t o (26 + u) made (notes g.notices) None;
          reset = still ∙ sym (serve_resets d w s t o (26 + u) (Some (outcome_with g.state (notes g.notices) g.begins)));
          next = subst (λ z. Continues (spi_basis d) (unit_bodies d) below (chip_after chip made y) w g.state o z m (at d e u (place.Serve q)) None) (sym (past_served d w s t o (26 + u) (notes g.notices) (past_wrote w made t)))
              (subst (λ z. StandBy d below (chip_after chip made y) w g.state (at d e u (place.Serve q)) o (later g.notices) (where_owed z (Units (at d e u (place.Serve q))))) (sym g.owing) (owes (serve_ahead d q) g.owes));
        })
      where
        later : List Notice → FrameHistory
        later ns = record (past_wrote w made t) { served = (26 + u) ∷ t.served; owed = t.owed ++ owing true ns }

        told : (ns : List Notice) → HasDone d e u true (owing true ns) (later ns)
        told ns = record { acted = done.acted; polled = done.polled; report = done.report; owed = ap (λ os. os ++ owing true ns) done.owed; progress = served_now d e u frame.small t (later ns) refl refl done.progress }

        owes : (n : Option (List Notice)) → ServeOwes d e (with_holds o t.acted (holds_by e) below) u (chip_after chip made y) w g.state g.notices q n
            → ((k : ℕ) × CommitsTo (spi_owing d) k (Units (at d e u (place.Serve q))) (chip_after chip made y) (λ c. SpiRepresents d (with_holds o t.acted (ahead_holds e u (served_ahead n)) below) c w g.state)) × OwedAt d (Some (record { table = d; errand = e; unit = u; ahead = served_ahead n })) o (later g.notices)
        owes None (none, k) = (k o t.acted, (frame, subst (λ ns. HasDone d e u true [] (later ns)) (sym none) (told [])))
        owes (Some ns) (are, k) = (k o t.acted, (frame, subst (λ xs. HasDone d e u true (owing true ns) (later xs)) (sym are) (told ns)))

    -- nothing may be there to serve
    serve_works : (e : FrameRole) (u : ℕ) (p : ServePlace) (made : Move) (value : ℕ) (o : Origin Call) (t : FrameHistory) → Frame d d e u o → HasDone d e u false [] t → SpiRepresents d (with_holds o t.acted (holds_by e) below) chip w s → resets_chip made ≡ false → ((l : ℕ) → ready w s l ≡ false → m l ≡ true)
        → (z : ServePlace × ServeStep) → ServeLeaves d e (with_holds o t.acted (holds_by e) below) u chip (chip_after chip made y) w s made y z
        → Work o t made value (after_serve (at d e u (place.Serve p)) z) ⊎ ((l : ℕ) × (ready w s l ≡ false) × Work o (record t { missed = l ∷ t.missed }) made value (after_serve (at d e u (place.Serve p)) z))
    serve_works e u p made value o t frame done h still misses (r, steps.Goes None) (g, here, free) = inl (serve_stands e u r below (chip_after chip made y) w s o (past_wrote w made t) free frame (same_done d e u false t (past_wrote w made t) [] [] refl refl refl refl refl done.owed done) g here)
    serve_works e u p made value o t frame done h still misses (r, steps.Goes (Some x)) g = inl (serves_so e u r x made value o t frame done h still g)
    serve_works e u p made value o t frame done h still misses (r, steps.JobOver x) g = absurd g
    serve_works e u p made value o t frame done h still misses (r, steps.Over) (g, none, free) = over_by_role e u o frame.of frame done g none
      where
        o_main : Origin Call
        o_main = Called calls.MainFunctionHandling

        over_by_role : (e : FrameRole) (u : ℕ) (o : Origin Call) → IsFor u e o → Frame d d e u o → HasDone d e u false [] t → SpiRepresents d (with_holds o t.acted (holds_by e) below) (chip_after chip made y) w s → ready w s (26 + u) ≡ false
            → Work o t made value (unit_over (at d e u (place.Serve p)) (place.Serve r) e u) ⊎ ((l : ℕ) × (ready w s l ≡ false) × Work o (record t { missed = l ∷ t.missed }) made value (unit_over (at d e u (place.Serve p)) (place.Serve r) e u))
        over_by_role (Transmit q) u _ (Transmits _) frame done g none = absurd done.progress
        over_by_role Handler u _ Handles frame done g none = inl (g, record { may = (or_right (has_line t.served (26 + u)) _ (misses (26 + u) none), refl); served = false; owed = done.owed; shown = λ i. absurd (cc); report = done.report })
        over_by_role Main zero _ Mains frame done g none = inr (26, none, next (is_sync_unit d 1) refl)
          where
            missed : FrameHistory
            missed = record t { missed = 26 ∷ t.missed }

            next : (z : Bool) → is_sync_unit d 1 ≡ z → Work o_main missed made value (main_over (at d Main 0 (place.Serve p)) (place.Serve r) z)
            next true sync = (handling_over d o_main t.acted below (chip_after chip made y) w s g, main_stops d (past_wrote w made missed) m done.acted done.polled done.report done.owed (just_missed t 26) (done.progress.1 sync))
            next false async =
                subst (λ e1. AssertedAt (spi_basis d) (unit_bodies d) below (chip_after chip made y) w s (at d e1 1 (place.Opens after.Serve)) o_main (past_wrote w made missed)) (sym (rest_missed r free))
                (g, (record { table = frame.table; small = omega arith; async = async; of = Mains }, record { acted = done.acted; polled = done.polled; report = done.report; owed = done.owed; progress = (just_missed t 26, done.progress.0) }))
        over_by_role Main (suc zero) _ Mains frame done g none = inr (27, none, (handling_over d o_main t.acted below (chip_after chip made y) w s g, main_stops d (past_wrote w made (record t { missed = 27 ∷ t.missed })) m done.acted done.polled done.report done.owed done.progress.0 (just_missed t 27)))
        over_by_role Main (suc (suc u)) _ Mains frame done g none = absurd (let lt = frame.small in omega (arith, lt))
        over_by_role Rest zero _ Rests frame done g none = absurd done.progress
        over_by_role Rest (suc zero) _ Rests frame done g none = inr (
          27,
          none,
          (
            handling_over d o_main t.acted below (chip_after chip made y) w s (clear_over d (handling_of o_main t.acted ∷ below) (chip_after chip made y) w s 0 o_main t.acted g),
            main_stops d (past_wrote w made (record t { missed = 27 ∷ t.missed })) m done.acted done.polled done.report done.owed done.progress.0 (just_missed t 27),
          ),
        )
        over_by_role Rest (suc (suc u)) _ Rests frame done g none = absurd (let lt = frame.small in omega (arith, lt))

    -- ---- the main function acts, the mask is opened, and notices are told

    -- it surely misses the line of a unit that has nothing to serve, and ends where no unit has anything
    pub acts_so : (e : FrameRole) (u : ℕ) (o : Origin Call) → IsFor u e o → e ≡ Main → u ≡ first_served d → is_polling s.mode ≡ true → ((l : ℕ) → ready w s l ≡ false → m l ≡ true) → SpiRepresents d below chip w s
        → let r = unit_acts (at d e u place.Act) (is_sync_unit d u) in Work o fresh_history (Load STATE) (word_of chip STATE) r ⊎ ((l : ℕ) × (ready w s l ≡ false) × Work o (record fresh_history { missed = l ∷ [] }) (Load STATE) (word_of chip STATE) r)
    acts_so e u o for is first polling misses h = main_works e u o for is first
      where
        o_main : Origin Call
        o_main = Called calls.MainFunctionHandling

        main_at : ℕ → UnitBody
        main_at u = at d Main u place.Act

        Acts : ℕ → Bool → FrameHistory → Type 0
        Acts u z t = Work o_main t (Load STATE) (word_of chip STATE) (unit_acts (main_at u) z)

        Either_acts : ℕ → Bool → Type 0
        Either_acts u z = Acts u z fresh_history ⊎ ((l : ℕ) × (ready w s l ≡ false) × Acts u z (record fresh_history { missed = l ∷ [] }))

        polled : polls s calls.MainFunctionHandling ≡ 26 ∷ 27 ∷ []
        polled = ap (λ (q : Bool). if q then 26 ∷ 27 ∷ [] else []) polling

        -- it acts, with these lines missed
        goes_so : (ls : List ℕ) (u : ℕ) → u < 2 → is_sync_unit d u ≡ false → Progress d Main u false (record fresh_history { acted = Some no_answer; polled = polls s calls.MainFunctionHandling; missed = ls }) → Acts u false (record fresh_history { missed = ls })
        goes_so ls u few async progress = record {
          may = refl;
          stands = tt;
          state = s;
          told = tells_nothing;
          begins = None;
          is = refl;
          sends = tt;
          acts = tt;
          reset = refl;
          next = (
            handling_begins d o_main (Some no_answer) below (chip_after chip (Load STATE) y) w s polling h,
            (record { table = refl; small = few; async = async; of = Mains }, record { acted = refl; polled = polled; report = refl; owed = refl; progress = progress }),
          );
        }

        -- no unit has anything to serve
        ends_so : (u : ℕ) → is_sync_unit d 0 ≡ true → is_sync_unit d 1 ≡ true → Acts u true fresh_history
        ends_so u first second = record {
          may = refl;
          stands = tt;
          state = s;
          told = tells_nothing;
          begins = None;
          is = refl;
          sends = tt;
          acts = tt;
          reset = refl;
          next = (
            h,
            record {
              may = (refl, ap (list_all (λ l. m l || false)) polled ∙ both_or (m 26) (m 27) (misses 26 (none_served d fits below chip w s h 0 first)) (misses 27 (none_served d fits below chip w s h 1 second)));
              served = false;
              owed = refl;
              shown = λ i. absurd (cc);
              report = refl;
            },
          );
        }
          where
            both_or : (x y : Bool) → x ≡ true → y ≡ true → (x || false) && ((y || false) && true) ≡ true
            both_or true true e f = refl
            both_or _ _ e f = absurd (cc)

        -- the first unit is served first where it starts jobs alone
        first_async : (z : Bool) → is_sync_unit d 0 ≡ z → ◌≡◌ {A = ℕ} 0 (if z then 1 else 0) → is_sync_unit d 0 ≡ false
        first_async true e f = absurd (cc)
        first_async false e f = e

        first_sync : (z : Bool) → is_sync_unit d 0 ≡ z → ◌≡◌ {A = ℕ} 1 (if z then 1 else 0) → is_sync_unit d 0 ≡ true
        first_sync true e f = e
        first_sync false e f = absurd (cc)

        none_past : (z : Bool) (u : ℕ) → suc (suc u) ≡ (if z then 1 else 0) → ⊥
        none_past true u e = cc
        none_past false u e = cc

        at_first : (z : Bool) → is_sync_unit d 1 ≡ z → is_sync_unit d 0 ≡ false → Either_acts 0 false
        at_first true sync async = inr (27, none_served d fits below chip w s h 1 sync, goes_so (27 ∷ []) 0 (omega arith) async (refl, λ e. refl))
        at_first false other async = inl (goes_so [] 0 (omega arith) async (refl, λ e. absurd (let f = sym other ∙ e in cc)))

        main_works : (e : FrameRole) (u : ℕ) (o : Origin Call) → IsFor u e o → e ≡ Main → u ≡ first_served d
            → let r = unit_acts (at d e u place.Act) (is_sync_unit d u) in Work o fresh_history (Load STATE) (word_of chip STATE) r ⊎ ((l : ℕ) × (ready w s l ≡ false) × Work o (record fresh_history { missed = l ∷ [] }) (Load STATE) (word_of chip STATE) r)
        main_works Main zero _ Mains is first = let async = first_async (is_sync_unit d 0) refl first in subst (λ z. Either_acts 0 z) (sym async) (at_first (is_sync_unit d 1) refl async)
        main_works Main (suc zero) _ Mains is first = whether_as (is_sync_unit d 1) (λ z. Either_acts 1 z)
            (λ sync. inl (ends_so 1 (first_sync (is_sync_unit d 0) refl first) sync))
            (λ async. inr (26, none_served d fits below chip w s h 0 (first_sync (is_sync_unit d 0) refl first), goes_so (26 ∷ []) 1 (omega arith) async (refl, refl)))
        main_works Main (suc (suc u)) _ Mains is first = absurd (none_past (is_sync_unit d 0) u first)
        main_works _ u o for is first = absurd (cc)

    -- after the opening it tells the notices, or starts
    pub opens_so : (e : FrameRole) (u : ℕ) (x : After) (o : Origin Call) (t : FrameHistory) → Frame d d e u o → OpensAt d e u x t → SpiRepresents d (with_holds o t.acted (opens_holds e u x) below) chip w s → StandAt below chip w s (at d e u (opened x)) o t
    opens_so e u after.Serve o t frame done h = (h, (frame, done))
    opens_so e u after.Start o t frame done h = (h, (frame, done))
    opens_so e u (after.Tell x) o t frame done h = by x.job x.sequence done
      where
        by : (i j : Option Notice) → HasDone d e u true (owing true (told_list i j)) t → StandAt below chip w s (at d e u (told_first i j)) o t
        by None (Some j) done = (h, (frame, done))
        by _ _ done = (h, (frame, done))

    pub tells_so : (e : FrameRole) (u : ℕ) (n : Notice) (other : Option Notice) (o : Origin Call) (t : FrameHistory) → Frame d d e u o → HasDone d e u true (owing true (n ∷ and_other other)) t → SpiRepresents d (with_holds o t.acted (with_debt e u) below) chip w s → Notes (spi_basis d) (unit_bodies d) below chip w s o n (at d e u (told_next other)) t
    tells_so e u n other o t frame done h = record {
      served = true;
      others = owing true (and_other other);
      is = done.owed;
      shown = λ i c named. h.arrays c;
      next = by other refl;
    }
      where
        later : FrameHistory
        later = record t { owed = owing true (and_other other) }

        rest : HasDone d e u true (owing true (and_other other)) later
        rest = same_done d e u true t later (owing true (n ∷ and_other other)) (owing true (and_other other)) refl refl refl refl refl refl done

        by : (z : Option Notice) → z ≡ other → StandAt below chip w s (at d e u (told_next z)) o later
        by None is = (h, (frame, subst (λ z. HasDone d e u true (owing true (and_other z)) later) (sym is) rest))
        by (Some i) is = (h, (frame, subst (λ z. HasDone d e u true (owing true (and_other z)) later) (sym is) rest))

  -- ---- all of them

  -- a move of its serving window, and of its start window
  pub serve_right_at : (below : Reservations) (chip : Chip) (w : World) (s : SpiState) (e : FrameRole) (u : ℕ) (p : ServePlace) (o : Origin Call) (y : ℕ) (t : FrameHistory) (m : ℕ → Bool) → serve_owes p ≡ false → Frame d d e u o → HasDone d e u false [] t
      → SpiRepresents d (with_holds o t.acted (holds_by e) below) chip w s → serve_place d u p (foot d chip) w s → is_shared (serve_move d u p) ≡ false
      → (MakesTo (spi_basis d) (unit_bodies d) below chip (chip_after chip (serve_move d u p) y) w s o (serve_move d u p) false (value_of chip (serve_move d u p)) y t (missed_after (spi_machine d) w s m) (after_serve (at d e u (place.Serve p)) (serve_takes d u p (value_of chip (serve_move d u p)))))
      ⊎ ((l : ℕ) × (ready w s l ≡ false) × MakesTo (spi_basis d) (unit_bodies d) below chip (chip_after chip (serve_move d u p) y) w s o (serve_move d u p) false (value_of chip (serve_move d u p)) y (record t { missed = l ∷ t.missed }) (missed_after (spi_machine d) w s m) (after_serve (at d e u (place.Serve p)) (serve_takes d u p (value_of chip (serve_move d u p)))))
  serve_right_at below chip w s e u p o y t m free frame done h here plain = cases (serve_works below chip w s y missed e u p made value o t frame done h still (λ l none. or_right (m l) _ (ap not none)) (serve_takes d u p value) (steps_right d fits e (with_holds o t.acted (holds_by e) below) chip w s h u frame.small here.0 y p free plain here.1))
      (λ works. inl (makes t works))
      (λ (l, none, works). inr (l, none, makes (record t { missed = l ∷ t.missed }) works))
    where
      made : Move
      made = serve_move d u p

      value : ℕ
      value = value_of chip made

      missed : ℕ → Bool
      missed = missed_after (spi_machine d) w s m

      r : UnitBody × BodyTaken
      r = after_serve (at d e u (place.Serve p)) (serve_takes d u p value)

      still : resets_chip made ≡ false
      still = (plain_move d made (second_holds (is_shared made) plain (serve_may d fits (with_holds o t.acted (holds_by e) below) chip w s h u frame.small p free here.1))).0

      Makes_at : FrameHistory → Type 0
      Makes_at t1 = MakesTo (spi_basis d) (unit_bodies d) below chip (chip_after chip made y) w s o made false value y t1 missed r

      makes : (t1 : FrameHistory) → Works (spi_basis d) (unit_bodies d) below chip (chip_after chip made y) w s o made false value y t1 missed r.0 r.1.event r.1.done → Makes_at t1
      makes t1 works = plain_makes (spi_basis d) (unit_bodies d) below chip (chip_after chip made y) w s o false value y t1 missed r.0 r.1.event r.1.done made plain works

  pub start_right_at : (below : Reservations) (chip : Chip) (w : World) (s : SpiState) (e : FrameRole) (u : ℕ) (p : StartPlace) (o : Origin Call) (y : ℕ) (t : FrameHistory) (m : ℕ → Bool) → start_owes p ≡ false → Frame d d e u o → HasDone d e u true [] t
      → SpiRepresents d (with_holds o t.acted (with_debt e u) below) chip w s → start_place d u p (foot d chip) s → is_shared (start_move d u p) ≡ false
      → MakesTo (spi_basis d) (unit_bodies d) below chip (chip_after chip (start_move d u p) y) w s o (start_move d u p) false (value_of chip (start_move d u p)) y t (missed_after (spi_machine d) w s m) (after_start (at d e u (place.Start p)) (start_takes d u p (value_of chip (start_move d u p))))
  start_right_at below chip w s e u p o y t m free frame done h here plain =
      plain_makes (spi_basis d) (unit_bodies d) below chip (chip_after chip made y) w s o false value y t (missed_after (spi_machine d) w s m) r.0 r.1.event r.1.done made plain
      (start_works below chip w s y (missed_after (spi_machine d) w s m) e u p made value o t frame done still (start_takes d u p value) (start_right d fits e (with_holds o t.acted (holds_by e) below) o t.acted chip w s u h y p free here))
    where
      made : Move
      made = start_move d u p

      value : ℕ
      value = value_of chip made

      r : UnitBody × BodyTaken
      r = after_start (at d e u (place.Start p)) (start_takes d u p value)

      still : resets_chip made ≡ false
      still = (plain_move d made (second_holds (is_shared made) plain (start_may d fits u frame.small p (foot d chip) s here))).0
