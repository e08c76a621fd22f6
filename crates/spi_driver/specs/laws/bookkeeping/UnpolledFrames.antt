-- Frames that poll no line leave no unit waiting, and the hardware lets none wait.
-- From spi_sequences: hardware.StableUnderHardware, spi_sequences: services.InitRight and 8 more.
-- Used by bookkeeping.Lawful, bookkeeping.NoneWaits.
use Rattle.std.proofs.Common.{◌≡◌, ◌&&◌, [], ◌∙◌, if◌then◌else◌}
use Rattle.spi_driver.specs.Terms
use Terms.{about_sent, Act, ap, AssertedAt, Bool, brought_by, Call, call_by, Called, cancel_bodies, CancelBody, Chip}
use Terms.{Done, Event, false, FitsSpi, FrameHistory, happening_at, init_bodies, InitBody, InitPlace, is_left_waiting}
use Terms.{is_off, is_some, Is_this_frame, IsInit, IsThisFrame, Leaves, LeavesNone, List, list_all, mode_later, Move}
use Terms.{moved, next_at, next_by, next_on, None, not, Nothing, Option, Order, Origin, outcome_of, pending_later}
use Terms.{PendingWrites, place_at, polled_by, polls, query_bodies, QueryBody, read_bodies, ReadBody, ReadPlace, refl}
use Terms.{Reservations, Run, run_at, runs_later, SendAbout, SendAhead, sender, served_by, set_up_bodies, SetUpBody}
use Terms.{Some, spi_basis, spi_machine, SpiState, SpiTable, spot_or, StandsAbout, StandsAhead, state_by, subst, sym}
use Terms.{sync_bodies, sync_owed, sync_spot, sync_windows, SyncBody, ToEnd, ToWait, unit_of, Whole, whole_bodies}
use Terms.{WholeBody, windows_are_right, World, world_after, write_bodies, WriteBody, ℕ}
use Rattle.spi_sequences.specs.declared.service.cancel.CancelBody.TheVariants as cancel
use Rattle.spi_sequences.specs.declared.service.init.InitPlace.TheVariants as init
use Rattle.spi_sequences.specs.declared.service.query.QueryBody.TheVariants as query
use Rattle.spi_sequences.specs.declared.service.read.ReadPlace.TheVariants as read
use Rattle.spi_sequences.specs.declared.service.set_up.SetUpBody.TheVariants as set_up
use Rattle.spi_sequences.specs.declared.service.whole.Whole.TheVariants as wholes
use Rattle.spi_sequences.specs.declared.service.whole.WholeBody.TheVariants as whole
use Rattle.spi_sequences.specs.declared.service.write.WriteBody.TheVariants as write

-- ---- what a frame leaves

-- a body that is done so, at a step with this event, leaves no unit waiting
abbrev pub LeavesBy : SpiTable → World → SpiState → Origin Call → FrameHistory → Move → (received : ℕ) → Option Event → Done → Type 0
LeavesBy d w s o t made y e n = Leaves (spi_machine d) w (state_by s (outcome_of (spi_machine d) w s (happening_at o (brought_by w t.committed made y) e))) o (polled_by (spi_machine d) w s o t.polled e) (served_by t.served e) n.owed

-- a frame that has polled no line, of a call that polls none
pub data PollsNone : Origin Call → (polled : List ℕ) → Type 0 where
  Polls_none : (c : Call) → ((s : SpiState) → polls s c ≡ []) → PollsNone (Called c) []

module _ (d : SpiTable) (w : World) (s : SpiState) where
  left_none : (o : Origin Call) (polled served : List ℕ) (e : Option Event) → PollsNone o polled → (w1 : World) (s1 : SpiState) → LeavesNone (spi_machine d) w1 s1 o (polled_by (spi_machine d) w s o polled e) served
  left_none _ _ served (Some Act) (Polls_none c none) w1 s1 = ap (list_all (λ l. not (is_left_waiting (spi_machine d) w1 s1 served l))) (none s)
  left_none _ _ served _ (Polls_none c none) w1 s1 = refl

  pub unpolled_left : (o : Origin Call) (polled served : List ℕ) → PollsNone o polled → LeavesNone (spi_machine d) w s o polled served
  unpolled_left _ _ served (Polls_none c none) = refl

  pub leaves_unpolled : (o : Origin Call) (t : FrameHistory) (made : Move) (y : ℕ) (e : Option Event) (n : Done) → PollsNone o t.polled → LeavesBy d w s o t made y e n
  leaves_unpolled o t made y e n none =
      let s1 : SpiState = state_by s (outcome_of (spi_machine d) w s (happening_at o (brought_by w t.committed made y) e)) in
      elim n.owed as (λ x. Leaves (spi_machine d) w s1 o (polled_by (spi_machine d) w s o t.polled e) (served_by t.served e) x)
      [ Nothing ↦ left_none o t.polled (served_by t.served e) e none w s1 | _ ↦ left_none o t.polled (served_by t.served e) e none ]

-- ---- the bodies that start and serve no unit

pub being_none : {c : Call} {p : FrameHistory} {o : Origin Call} {t : FrameHistory} → IsThisFrame (Called c) p o t → p.polled ≡ [] → ((s : SpiState) → polls s c ≡ []) → PollsNone o t.polled
being_none {c} {p} Is_this_frame e none = subst (λ ls. PollsNone (Called c) ls) (sym e) (Polls_none c none)

whole_polls : (x : Whole) (s : SpiState) → polls s (call_by x) ≡ []
whole_polls wholes.DeInit s = refl
whole_polls _ s = refl

module _ (d : SpiTable) (below : Reservations) (chip : Chip) (w : World) (s : SpiState) (o : Origin Call) (t : FrameHistory) where
  init_is : (x : SpiTable) → IsInit d x below o t → PollsNone o t.polled
  init_is x h = being_none h.0 refl (λ z. refl)

  pub init_unpolled : (k : InitBody) → AssertedAt (spi_basis d) (init_bodies d) below chip w s k o t → PollsNone o t.polled
  init_unpolled k h = by k.place h
    where
      by : (p : InitPlace) → AssertedAt (spi_basis d) (init_bodies d) below chip w s (record k { place = p }) o t → PollsNone o t.polled
      by init.Closes h = init_is k.table h.1
      by init.Store h = init_is k.table h.1
      by _ h = init_is k.table h.1.0

  pub whole_unpolled : (k : WholeBody) → AssertedAt (spi_basis d) (whole_bodies d) below chip w s k o t → PollsNone o t.polled
  whole_unpolled (whole.Look x q) h = being_none h.1.0.0 refl (whole_polls x)
  whole_unpolled (whole.Store x) h = being_none h.1.0.0 refl (whole_polls x)
  whole_unpolled (whole.Lines x) h = being_none h.1.0 refl (whole_polls x)

  pub query_unpolled : (k : QueryBody) → AssertedAt (spi_basis d) (query_bodies d) below chip w s k o t → PollsNone o t.polled
  query_unpolled (query.Job r) (h, (j, asking, is, at)) = being_none asking.0 refl (λ z. refl)
  query_unpolled (query.Sequence q) (h, (n, asking, lt, is)) = being_none asking.0 refl (λ z. refl)
  query_unpolled (query.Unit u) (h, (n, asking, lt, is)) = being_none asking.0 refl (λ z. refl)

  pub set_up_unpolled : (k : SetUpBody) → AssertedAt (spi_basis d) (set_up_bodies d) below chip w s k o t → PollsNone o t.polled
  set_up_unpolled (set_up.Store x by) h = being_none h.1.5 refl (λ z. refl)

  pub write_unpolled : (k : WriteBody) → AssertedAt (spi_basis d) (write_bodies d) below chip w s k o t → PollsNone o t.polled
  write_unpolled (write.Choose r) h = being_none h.1.0.2 refl (λ z. refl)
  write_unpolled _ h = being_none h.1.0.2 refl (λ z. refl)

  pub read_unpolled : (k : ReadBody) → AssertedAt (spi_basis d) (read_bodies d) below chip w s k o t → PollsNone o t.polled
  read_unpolled k h = polls_none k.place h
    where
      polls_none : (p : ReadPlace) → AssertedAt (spi_basis d) (read_bodies d) below chip w s (record k { place = p }) o t → PollsNone o t.polled
      polls_none (read.Pin p) h = being_none h.1.0.2 refl (λ z. refl)
      polls_none (read.Release p) h = being_none h.1.0.3 refl (λ z. refl)
      polls_none read.Over h = absurd h.1
      polls_none _ h = being_none h.1.3 refl (λ z. refl)

  pub cancel_unpolled : (k : CancelBody) → AssertedAt (spi_basis d) (cancel_bodies d) below chip w s k o t → PollsNone o t.polled
  cancel_unpolled (cancel.Drop r p) h = being_none h.1.1 refl (λ z. refl)
  cancel_unpolled _ h = being_none h.1.1.0 refl (λ z. refl)

  -- those that send a sequence and wait

  about_unpolled : (x : Option SendAbout) → StandsAbout d x below o t → PollsNone o t.polled
  about_unpolled None h = absurd h
  about_unpolled (Some x) h = by x.ahead h
    where
      by : (p : SendAhead) → StandsAhead d x p below o t → PollsNone o t.polled
      by (ToWait n p) h = being_none h.this refl (λ z. refl)
      by (ToEnd v) h = being_none h refl (λ z. refl)
      by _ h = absurd h

  pub sync_unpolled : FitsSpi d → (k : SyncBody) → AssertedAt (spi_basis d) (sync_bodies d) below chip w s k o t → PollsNone o t.polled
  sync_unpolled fits k h = by (sync_owed k) refl h
    where
      by : (x : Option PendingWrites) → sync_owed k ≡ x → AssertedAt (spi_basis d) (sync_bodies d) below chip w s k o t → PollsNone o t.polled
      by None e h = being_none (sender d fits (windows_are_right d fits) below chip w s k o t e h).this refl (λ z. refl)
      by (Some x) e h = about_unpolled (about_sent x) (subst (λ q. place_at (spot_or (sync_windows d) q (sync_spot d k k.place)) below ((spi_basis d).foot chip) w s o t) e h.1)

-- ---- the hardware

module _ (d : SpiTable) (w : World) (s : SpiState) (order : Order) where
  abbrev s1 : SpiState
  s1 = moved d w s order

  waits_is : (z : SpiState) (u : ℕ) → is_some (next_at d z (Some u)) ≡ not (is_off z.mode) && (not (is_some (run_at z u)) && is_some (next_on d u z.pending))
  waits_is z u = by (is_off z.mode) (run_at z u)
    where
      by : (q : Bool) (r : Option Run) → is_some (if q then None else next_by d z u r) ≡ not q && (not (is_some r) && is_some (next_on d u z.pending))
      by false None = refl
      by _ _ = refl

  same_waits : (u : Option ℕ) → is_some (next_at d s1 u) ≡ is_some (next_at d s u)
  same_waits None = refl
  same_waits (Some u) =
      waits_is s1 u
      ∙ ap (λ m. not (is_off m) && (not (is_some (run_at s1 u)) && is_some (next_on d u s1.pending))) (mode_later d w s order)
      ∙ ap (λ q. not (is_off s.mode) && (not q && is_some (next_on d u s1.pending))) (runs_later d w s order u)
      ∙ ap (λ ps. not (is_off s.mode) && (not (is_some (run_at s u)) && is_some (next_on d u ps))) (pending_later d w s order)
      ∙ sym (waits_is s u)

  pub lets_none : (rate line : ℕ) → (spi_machine d).line_waits w s line ≡ false → (spi_machine d).line_waits (world_after w rate order) s1 line ≡ false
  lets_none rate line e = same_waits (unit_of line) ∙ e
