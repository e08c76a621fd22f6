-- A frame of units that is done leaves no unit waiting whose line it has served.
-- From services.UnitFrames, spi_sequences: services.UnitSteps, bookkeeping.PendingWritesRight and 6 more.
-- Used by bookkeeping.Lawful.
use Rattle.std.proofs.Common.{◌≡◌, ◌+◌, ◌/◌, ◌%◌, ◌<◌, ◌==◌, ◌&&◌, [], ◌∷◌, ◌∙◌, if◌then◌else◌}
use Rattle.spi_driver.specs.Terms
use Terms.{Act, after_request, after_serve, after_start, and_false, ap, arith, AssertedAt, AsyncTransmit, BodyTaken}
use Terms.{Bool, brought_by, by_two, Call, Called, Chip, chip_after, CommitsTo, Done, Either, Entered, false}
use Terms.{find_gave, FitsSpi, FrameHistory, FrameRole, Handler, happening_at, has_line, held_by, is_left_waiting}
use Terms.{is_owed, is_sync_unit, Leaves, LeavesNone, List, list_all, Load, Main, main_over, Move, no_answer, None}
use Terms.{not, Nothing, Notice, Option, Origin, outcome_of, PendingWrites, polled_by, refl, request_takes, Requested}
use Terms.{requested_by, RequestPlace, Reservations, Rest, run_in, Running, same_number, serve_ahead, serve_finds}
use Terms.{serve_owes, serve_run, serve_takes, ServePlace, ServeStep, Some, spi_basis, spi_machine, spi_owing}
use Terms.{SpiRepresents, SpiState, SpiTable, start_move, start_owes, start_place, start_right, start_takes, Started}
use Terms.{StartLeaves, StartPlace, STATE, state_by, subst, suc, sym, Transmit, true, unit_acts, unit_over, unit_owes}
use Terms.{unit_takes, unit_work, UnitBody, UnitPlace, Units, value_of, waits_none, where_owed, with_holds, World}
use Terms.{zero, ℕ}
use Rattle.spi_driver.specs.laws.services.UnitFrames.{Frame, Handles, HasDone, IsFor, Mains, RequestAt, Rests}
use Rattle.spi_driver.specs.laws.services.UnitFrames.{Transmits, ahead_holds, ahead_owing, at, holds_by, served_ahead}
use Rattle.spi_driver.specs.laws.services.UnitFrames.{unit_bodies, with_cleared, with_debt, StandBy, by_transmit}
use Rattle.spi_driver.specs.laws.{services.UnitFrames.{foot}, bookkeeping.PendingWritesRight.{RequestOn, ServeOn}}
use Rattle.spi_driver.specs.laws.bookkeeping.PendingWritesRight.{request_on, serve_on}
use Rattle.spi_driver.specs.laws.bookkeeping.UnpolledFrames.{LeavesBy, PollsNone, Polls_none, leaves_unpolled}
use Rattle.spi_machine.specs.declared.call.Call.TheVariants as calls
use Rattle.spi_sequences.specs.declared.service.request.RequestPlace.TheVariants as request
use Rattle.spi_sequences.specs.declared.service.request.Requested.TheVariants as requested
use Rattle.spi_sequences.specs.declared.service.serve.ServePlace.TheVariants as serve
use Rattle.spi_sequences.specs.declared.service.serve.ServeStep.TheVariants as steps
use Rattle.spi_sequences.specs.declared.service.start.StartPlace.TheVariants as start
use Rattle.spi_sequences.specs.declared.service.start.Started.TheVariants as started
use Rattle.spi_sequences.specs.declared.service.unit.UnitPlace.TheVariants as place

-- ---- lines

-- of two lines none is so
none_of : (f : ℕ → Bool) (ls : List ℕ) → ls ≡ 26 ∷ 27 ∷ [] → f 26 ≡ false → f 27 ≡ false → list_all (λ l. not (f l)) ls ≡ true
none_of f ls e first second = ap (list_all (λ l. not (f l))) e ∙ ap (λ q. not q && (not (f 27) && true)) first ∙ ap (λ q. not q && true) second

-- moves that are owed come to an end
reached : (d : SpiTable) (n : ℕ) (x : PendingWrites) (chip : Chip) (Then : Chip → Type 0) → CommitsTo (spi_owing d) n x chip Then → (c : Chip) × Then c
reached d zero x chip Then h = absurd h
reached d (suc n) x chip Then h = by (λ z c k. reached d n z c Then k) ((spi_owing d).left x (value_of chip made)) h.2
  where
    made : Move
    made = (spi_owing d).move x

    later : Chip
    later = chip_after chip made 0

    by : ((z : PendingWrites) (c : Chip) → CommitsTo (spi_owing d) n z c Then → (e : Chip) × Then e) → (q : Option PendingWrites) → Either q (λ z. CommitsTo (spi_owing d) n z later Then) (Then later) → (e : Chip) × Then e
    by more None h = (later, h)
    by more (Some z) h = more z later h

module _ (d : SpiTable) (fits : FitsSpi d) where
  -- no unit waits to which no start is owed
  idle : (held : Reservations) (chip : Chip) (w : World) (s : SpiState) (u : ℕ) → SpiRepresents d held chip w s → u < 2 → is_owed u held ≡ false → (spi_machine d).line_waits w s (26 + u) ≡ false
  idle held chip w s u h lt none = by_two (λ n. is_owed n held ≡ false → (spi_machine d).line_waits w s (26 + n) ≡ false) (λ f. waits_none d fits held chip w s 0 (omega arith) f h) (λ f. waits_none d fits held chip w s 1 (omega arith) f h) u lt none

  module _ (chip : Chip) (w : World) (s : SpiState) (made : Move) (y : ℕ) (n : Done) where
    abbrev Left : Origin Call → FrameHistory → BodyTaken → Type 0
    Left o t r = r.done ≡ Some n → LeavesBy d w s o t made y r.event n

    some_done : (x : Done) → Some x ≡ Some n → x ≡ n
    some_done x e = cc

    over_left : (o : Origin Call) (t : FrameHistory) {x : Done} → Some x ≡ Some n → LeavesBy d w s o t made y None x → LeavesBy d w s o t made y None n
    over_left o t {x} is h = subst (λ z. LeavesBy d w s o t made y None z) (some_done x is) h

    -- a line of a unit that doesn't wait, and one that wasn't served
    unit_left : (served : List ℕ) (l : ℕ) → (spi_machine d).line_waits w s l ≡ false → is_left_waiting (spi_machine d) w s served l ≡ false
    unit_left served l e = ap (λ q. has_line served l && q) e ∙ and_false (has_line served l)

    unserved_left : (served : List ℕ) (l : ℕ) → has_line served l ≡ false → is_left_waiting (spi_machine d) w s served l ≡ false
    unserved_left served l e = ap (λ q. q && (spi_machine d).line_waits w s l) e

    abbrev o_main : Origin Call
    o_main = Called calls.MainFunctionHandling

    -- the main function leaves none, by its two lines
    main_left : (t : FrameHistory) {x : Done} → Some x ≡ Some n → t.polled ≡ 26 ∷ 27 ∷ [] → is_left_waiting (spi_machine d) w s t.served 26 ≡ false → is_left_waiting (spi_machine d) w s t.served 27 ≡ false → x.owed ≡ Nothing → LeavesBy d w s o_main t made y None n
    main_left t {x} is polled first second none = over_left o_main t is (subst (λ z. Leaves (spi_machine d) w s o_main t.polled t.served z) (sym none) (none_of (is_left_waiting (spi_machine d) w s t.served) t.polled polled first second))

    -- after the first unit it is done with only where it polls no second one
    ends_both : (z : Bool) (k : UnitBody) (q : UnitPlace) (t : FrameHistory) → ((main_over k q true).1.done ≡ Some n → LeavesBy d w s o_main t made y (main_over k q true).1.event n) → (main_over k q z).1.done ≡ Some n → LeavesBy d w s o_main t made y (main_over k q z).1.event n
    ends_both true k q t last is = last is
    ends_both false k q t last is = absurd (cc)

    -- where it has cleared the unit
    cleared_left : (x : SpiTable) (e : FrameRole) (u : ℕ) (k : UnitBody) (q : UnitPlace) (below : Reservations) (o : Origin Call) (t : FrameHistory) → Frame d x e u o → HasDone d e u true [] t → SpiRepresents d (with_holds o t.acted (with_cleared e u) below) chip w s → Left o t (unit_over k q e u).1
    cleared_left x e u k q below o t frame done h is = cleared_by_role e u o frame.of frame.small done h is
      where
        cleared_by_role : (e : FrameRole) (u : ℕ) (o : Origin Call) → IsFor u e o → u < 2 → HasDone d e u true [] t → SpiRepresents d (with_holds o t.acted (with_cleared e u) below) chip w s → Left o t (unit_over k q e u).1
        cleared_by_role (Transmit i) u _ (Transmits _) lt done h is = over_left (Called (calls.Sequence i AsyncTransmit)) t is (ap (list_all (λ l. not (is_left_waiting (spi_machine d) w s t.served l))) done.polled)
        cleared_by_role Handler u _ Handles lt done h is = over_left (Entered (26 + u)) t is (unit_left t.served (26 + u) (idle _ chip w s u h lt (ap (λ q. not q && is_owed u below) (same_number u))))
        cleared_by_role Main zero _ Mains lt done h is = ends_both (is_sync_unit k.table 1) k q t (λ is. main_left t is done.polled (unit_left t.served 26 (idle _ chip w s 0 h (omega arith) refl)) (unserved_left t.served 27 done.progress.1) refl) is
        cleared_by_role Main (suc zero) _ Mains lt done h is = main_left t is done.polled (unserved_left t.served 26 done.progress.2) (unit_left t.served 27 (idle _ chip w s 1 h (omega arith) refl)) refl
        cleared_by_role Main (suc (suc u)) _ Mains lt done h is = absurd (omega (arith, lt))
        cleared_by_role Rest zero _ Rests lt done h is = absurd done.progress
        cleared_by_role Rest (suc zero) _ Rests lt done h is = main_left t is done.polled (unit_left t.served 26 (idle _ chip w s 0 h (omega arith) refl)) (unit_left t.served 27 (idle _ chip w s 1 h (omega arith) refl)) refl
        cleared_by_role Rest (suc (suc u)) _ Rests lt done h is = absurd (omega (arith, lt))

    -- where its line wasn't ready
    missed_left : (x : SpiTable) (e : FrameRole) (u : ℕ) (k : UnitBody) (q : UnitPlace) (below : Reservations) (o : Origin Call) (t : FrameHistory) → Frame d x e u o → HasDone d e u false [] t → SpiRepresents d (with_holds o t.acted (holds_by e) below) chip w s → Left o t (unit_over k q e u).1
    missed_left x e u k q below o t frame done h is = missed_by_role e u o frame.of frame.small done h is
      where
        missed_by_role : (e : FrameRole) (u : ℕ) (o : Origin Call) → IsFor u e o → u < 2 → HasDone d e u false [] t → SpiRepresents d (with_holds o t.acted (holds_by e) below) chip w s → Left o t (unit_over k q e u).1
        missed_by_role (Transmit i) u _ (Transmits _) lt done h is = absurd done.progress
        missed_by_role Handler u _ Handles lt done h is = over_left (Entered (26 + u)) t is (unserved_left t.served (26 + u) (ap (λ ls. has_line ls (26 + u)) done.progress))
        missed_by_role Main zero _ Mains lt done h is = ends_both (is_sync_unit k.table 1) k q t (λ is. main_left t is done.polled (unserved_left t.served 26 (ap (λ ls. has_line ls 26) done.progress.0)) (unserved_left t.served 27 (ap (λ ls. has_line ls 27) done.progress.0)) refl) is
        missed_by_role Main (suc u) _ Mains lt done h is = main_left t is done.polled (unserved_left t.served 26 (ap (λ ls. has_line ls 26) done.progress.1)) (unserved_left t.served 27 (ap (λ ls. has_line ls 27) done.progress.1)) refl
        missed_by_role Rest zero _ Rests lt done h is = absurd done.progress
        missed_by_role Rest (suc u) _ Rests lt done h is = main_left t is done.polled (unit_left t.served 26 (idle _ chip w s 0 h (omega arith) refl)) (unserved_left t.served 27 done.progress.1) refl

  -- ---- at each place

  module _ (below : Reservations) (chip : Chip) (w : World) (s : SpiState) (o : Origin Call) (t : FrameHistory) (y : ℕ) (n : Done) where
    abbrev Stood : UnitBody → Option PendingWrites → Type 0
    Stood k q = StandBy d below chip w s k o t q

    -- what a frame leaves at a place
    abbrev LeftAt : UnitBody → BodyTaken → Type 0
    LeftAt k r = Left chip w s (unit_work k) y n o t r

    -- it owes moves, of which the last one is made
    owed_left : (x : SpiTable) (e : FrameRole) (u : ℕ) (p : UnitPlace) → unit_owes p ≡ true → Stood (at x e u p) (Some (Units (at x e u p))) → LeftAt (at x e u p) (unit_takes (at x e u p) (value_of chip (unit_work (at x e u p)))).1
    owed_left x e u (place.Request r) i h = by (request_takes x (requested_by e) r v) (request_on x (requested_by e) r v i)
      where
        v : ℕ
        v = value_of chip (unit_work (at x e u (place.Request r)))

        by : (z : RequestPlace × Requested) → RequestOn z → LeftAt (at x e u (place.Request r)) (after_request (at x e u (place.Request r)) z).1
        by (r1, requested.Goes z) k is = absurd (cc)
        by (r1, requested.Held) k is = absurd k
        by (r1, requested.Accepted) k is = absurd (cc)
    owed_left x e u (place.Start r) i ((m, settles), (frame, done)) = by (start_takes x u r v)
      where
        v : ℕ
        v = value_of chip (unit_work (at x e u (place.Start r)))

        last : (c : Chip) × SpiRepresents d (with_holds o t.acted (with_cleared e u) below) c w s
        last = reached d m (Units (at x e u (place.Start r))) chip (λ c. SpiRepresents d (with_holds o t.acted (with_cleared e u) below) c w s) settles

        by : (z : StartPlace × Started) → LeftAt (at x e u (place.Start r)) (after_start (at x e u (place.Start r)) z).1
        by (r1, started.Goes z) is = absurd (cc)
        by (r1, started.Over) is = cleared_left last.0 w s (unit_work (at x e u (place.Start r))) y n x e u (at x e u (place.Start r)) (place.Start r1) below o t frame done last.1 is
    owed_left x e u (place.Serve r) i ((m, settles), (frame, done)) = by (serve_takes x u r v) (serve_on x u r v i)
      where
        v : ℕ
        v = value_of chip (unit_work (at x e u (place.Serve r)))

        Here : Option (List Notice) → Type 0
        Here k = HasDone d e u true (ahead_owing (served_ahead k)) t × ((c : Chip) × SpiRepresents d (with_holds o t.acted (ahead_holds e u (served_ahead k)) below) c w s)

        here : Here (serve_ahead x r)
        here = (done, reached d m (Units (at x e u (place.Serve r))) chip (λ c. SpiRepresents d (with_holds o t.acted (ahead_holds e u (served_ahead (serve_ahead x r))) below) c w s) settles)

        by : (z : ServePlace × ServeStep) → ServeOn x (serve_ahead x r) z → LeftAt (at x e u (place.Serve r)) (after_serve (at x e u (place.Serve r)) z).1
        by (r1, steps.Goes z) k is = absurd (cc)
        by (r1, steps.JobOver z) k is = absurd (cc)
        by (r1, steps.Over) k is = let last = subst Here k.0 here in cleared_left last.1.0 w s (unit_work (at x e u (place.Serve r))) y n x e u (at x e u (place.Serve r)) (place.Serve r1) below o t frame last.0 last.1.1 is
    owed_left x e u _ i h = absurd (cc)

    -- a request that is refused has polled nothing
    request_left : (x : SpiTable) (e : FrameRole) (u : ℕ) (r : RequestPlace) → IsFor u e o → RequestAt d e u r s t → LeftAt (at x e u (place.Request r)) (unit_takes (at x e u (place.Request r)) (value_of chip (unit_work (at x e u (place.Request r))))).1
    request_left x e u r for asked = by (request_takes x (requested_by e) r (value_of chip (unit_work (at x e u (place.Request r)))))
      where
        unpolled : (q : ℕ) (r : RequestPlace) → RequestAt d (Transmit q) u r s t → PollsNone (Called (calls.Sequence q AsyncTransmit)) t.polled
        unpolled q (request.Look k) (i, now, lt, others) = subst (λ (p : FrameHistory). PollsNone (Called (calls.Sequence q AsyncTransmit)) p.polled) (sym now) (Polls_none (calls.Sequence q AsyncTransmit) (λ z. refl))
        unpolled q request.Accept (i, now, others) = subst (λ (p : FrameHistory). PollsNone (Called (calls.Sequence q AsyncTransmit)) p.polled) (sym now) (Polls_none (calls.Sequence q AsyncTransmit) (λ z. refl))
        unpolled q _ asked = absurd asked

        none : PollsNone o t.polled
        none = by_transmit d u r s t (λ e o. PollsNone o t.polled) (λ q asked. unpolled q r asked) e o for asked

        by : (z : RequestPlace × Requested) → LeftAt (at x e u (place.Request r)) (after_request (at x e u (place.Request r)) z).1
        by (r1, requested.Goes z) is = absurd (cc)
        by (r1, requested.Held) is = leaves_unpolled d w s o t (unit_work (at x e u (place.Request r))) y (held_by x).event n none
        by (r1, requested.Accepted) is = absurd (cc)

    -- a start that finds the unit busy, or no sequence that waits
    start_left : (e : FrameRole) (u : ℕ) (p : StartPlace) → start_owes p ≡ false → Frame d d e u o → HasDone d e u true [] t → SpiRepresents d (with_holds o t.acted (with_debt e u) below) chip w s → start_place d u p (foot d chip) s
        → LeftAt (at d e u (place.Start p)) (unit_takes (at d e u (place.Start p)) (value_of chip (start_move d u p))).1
    start_left e u p free frame done h here = by (start_takes d u p v) (start_right d fits e held o t.acted chip w s u h 0 p free here)
      where
        v : ℕ
        v = value_of chip (start_move d u p)

        held : Reservations
        held = with_holds o t.acted (holds_by e) below

        later : Chip
        later = chip_after chip (start_move d u p) 0

        by : (z : StartPlace × Started) → StartLeaves d e held o t.acted u chip later w s (start_move d u p) 0 z → LeftAt (at d e u (place.Start p)) (after_start (at d e u (place.Start p)) z).1
        by (r1, started.Goes z) k is = absurd (cc)
        by (r1, started.Over) k is = cleared_left later w s (start_move d u p) y n d e u (at d e u (place.Start p)) (place.Start r1) below o t frame done k is

    abbrev LeftX : SpiTable → FrameRole → ℕ → UnitPlace → Type 0
    LeftX x e u p = LeftAt (at x e u p) (unit_takes (at x e u p) (value_of chip (unit_work (at x e u p)))).1

    free_start : (x : SpiTable) (e : FrameRole) (u : ℕ) (p : StartPlace) → start_owes p ≡ false → Stood (at x e u (place.Start p)) None → LeftX x e u (place.Start p)
    free_start x e u start.Shut i h = λ is. absurd (cc)
    free_start x e u p i h =
        subst (λ z. LeftX z e u (place.Start p)) (sym h.1.1.table)
        (start_left e u p i (record { table = refl; small = h.1.1.small; async = h.1.1.async; of = h.1.1.of }) h.1.2 h.0 h.1.0)

    free_serve : (x : SpiTable) (e : FrameRole) (u : ℕ) (p : ServePlace) → serve_owes p ≡ false → Stood (at x e u (place.Serve p)) None → LeftX x e u (place.Serve p)
    free_serve x e u serve.State i (h, (here, frame, done)) = by (v / 2 % 2 == 0)
      where
        v : ℕ
        v = value_of chip (unit_work (at x e u (place.Serve serve.State)))

        by : (q : Bool) → LeftAt (at x e u (place.Serve serve.State)) (after_serve (at x e u (place.Serve serve.State)) (if q then (serve.State, steps.Over) else (serve.Running (v / 4 % 2 == 1), steps.Goes None))).1
        by true is = missed_left chip w s (unit_work (at x e u (place.Serve serve.State))) y n x e u (at x e u (place.Serve serve.State)) (place.Serve serve.State) below o t frame done h is
        by false is = absurd (cc)
    free_serve x e u (serve.Running q) i (h, (here, frame, done)) = by (run_in (value_of chip (unit_work (at x e u (place.Serve (serve.Running q))))))
      where
        by : (z : Option Running) → LeftAt (at x e u (place.Serve (serve.Running q))) (after_serve (at x e u (place.Serve (serve.Running q))) (serve_run q z)).1
        by None is = missed_left chip w s (unit_work (at x e u (place.Serve (serve.Running q)))) y n x e u (at x e u (place.Serve (serve.Running q))) (place.Serve (serve.Running q)) below o t frame done h is
        by (Some z) is = absurd (cc)
    free_serve x e u (serve.Find r p f) i h =
        elim (find_gave f (value_of chip (unit_work (at x e u (place.Serve (serve.Find r p f)))))) as (λ q. LeftAt (at x e u (place.Serve (serve.Find r p f))) (after_serve (at x e u (place.Serve (serve.Find r p f))) (serve_finds r p f (value_of chip (unit_work (at x e u (place.Serve (serve.Find r p f))))) q)).1)
        [ None ↦ (λ is. absurd (cc)) | Some z ↦ (λ is. absurd (cc)) ]
    free_serve x e u _ i h = λ is. absurd (cc)

    left_by : (x : SpiTable) (e : FrameRole) (u : ℕ) (p : UnitPlace) (q : Bool) → unit_owes p ≡ q → Stood (at x e u p) (where_owed q (Units (at x e u p))) → LeftX x e u p
    left_by x e u p true i h = owed_left x e u p i h
    left_by x e u (place.Request r) false i h = request_left x e u r h.1.0.of h.1.1
    left_by x e u (place.Start p) false i h = free_start x e u p i h
    left_by x e u (place.Serve p) false i h = free_serve x e u p i h
    left_by x e u place.Act false i (h, (table, for, main, first, now, polling)) = acts_left (is_sync_unit x u)
      where
        acts_left : (z : Bool) → LeftAt (at x e u place.Act) (unit_acts (at x e u place.Act) z).1
        acts_left true is = over_act is
          where
            served_none : t.served ≡ []
            served_none = ap (λ (p : FrameHistory). p.served) now

            over_act : LeftAt (at x e u place.Act) (unit_acts (at x e u place.Act) true).1
            over_act is = subst (λ z. LeavesBy d w s o t (Load STATE) y (Some Act) z) (some_done chip w s (Load STATE) y n (record { answer = no_answer; owed = Nothing }) is) (by_served t.served served_none)
              where
                s1 : SpiState
                s1 = state_by s (outcome_of (spi_machine d) w s (happening_at o (brought_by w t.committed (Load STATE) y) (Some Act)))

                all_so : (ls : List ℕ) → list_all (λ l. not (is_left_waiting (spi_machine d) w s1 [] l)) ls ≡ true
                all_so [] = refl
                all_so (l ∷ ls) = all_so ls

                none_served : (o : Origin Call) (ls : List ℕ) → LeavesNone (spi_machine d) w s1 o ls []
                none_served (Called c) ls = all_so ls
                none_served (Entered l) ls = refl

                by_served : (ls : List ℕ) → ls ≡ [] → LeavesNone (spi_machine d) w s1 o (polled_by (spi_machine d) w s o t.polled (Some Act)) ls
                by_served ls none = subst (λ zs. LeavesNone (spi_machine d) w s1 o (polled_by (spi_machine d) w s o t.polled (Some Act)) zs) (sym none) (none_served o (polled_by (spi_machine d) w s o t.polled (Some Act)))
        acts_left false is = absurd (cc)
    left_by x e u _ false i h = λ is. absurd (cc)

    pub units_left : (k : UnitBody) → AssertedAt (spi_basis d) (unit_bodies d) below chip w s k o t → LeftAt k (unit_takes k (value_of chip (unit_work k))).1
    units_left k h = left_by k.table k.errand k.unit k.place (unit_owes k.place) refl h
