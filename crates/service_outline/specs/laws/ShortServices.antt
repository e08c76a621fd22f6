-- Short bodies among services owe no more, and a driver of short services alone is lawful.
-- From StepKinds, Duties, Lawful.
-- Used by Owing, SweepRight, wdg_driver: frames/rt, icu_driver: frames/rt, gpt_driver: frames/rt and 1 more.
use Rattle.std.proofs.Common.{◌≡◌, ℕ, ◌<◌, ◌||◌, Bool, true, false, List, [], ◌∷◌, Option, Some, None, refl, sym, ◌∙◌, ap, subst}
use Rattle.chip_model.specs.Chip.{Chip, value_of, chip_after}
use Rattle.mcal_base.specs.declared.moves.Event.{Event}
use Rattle.mcal_base.specs.declared.moves.Event.TheVariants.{Act, Serve, Abort, Start}
use Rattle.mcal_base.specs.declared.moves.Move.{Move}
use Rattle.mcal_base.specs.declared.notice.Notice.{Notice}
use Rattle.mcal_base.specs.declared.moves.Move.TheVariants.{Read, Write, Load, Store, Mask, Unmask, Note, Report}
use Rattle.run_model.specs.World.{World}
use Rattle.run_model.specs.Machine.{Moves, Told, Outcome, outcome}
use Rattle.run_model.specs.Frame.{Origin, Called, Entered, owing, committed_after, brought_by, is_shared, missed_after, resets_chip, begins_word, is_reset_service, report_of, asks_reset}
use Rattle.run_model.specs.Moment.{Setting}
use Rattle.step_runner.specs.Driver.{most_steps, IsLawful, ComesRight}
use Rattle.service_outline.specs.declared.body.Looked.{Looked}
use Rattle.service_outline.specs.declared.body.Looked.TheVariants.{Refused, Goes}
use Rattle.service_outline.specs.declared.done.Done.{Done}
use Rattle.service_outline.specs.Fuel.{ShortensTo}
use Rattle.service_outline.specs.ShortServices.{Places, above, short, AsksNone, IsSilentMove, unheld, services_of, driver_of}
use Rattle.service_outline.specs.laws.Lawful.{services_lawful}
use Rattle.service_outline.specs.Outline.{Refinement, Bodies, At, AreRight, GoesOn, StepsRight, StepsTo, TellsAs, notices_in, error_in, IsGround, Outlined, IsOutlined, LooksRight}
use Rattle.service_outline.specs.FrameHistory.{FrameHistory, fresh_history, past_of}
use Rattle.service_outline.specs.WindowHistory.{Starts}
use Rattle.service_outline.specs.Services.{ReservedBy, SharedRefinement, Shown, AreShown, MayStop, over, IsBasis, Steady, LongBodies, AssertedAt, AreLong, Continues, Works, Makes, Right, KeepsMask, TurnsMask, TurnsTo, AreServices, Decides, CanBegin}
use Rattle.service_outline.specs.Short.{short_move, short_left, short_gave}
use Rattle.service_outline.specs.laws.Duties.{no_duties, no_units}
use Rattle.service_outline.specs.laws.StepKinds.{or_true, same_line, asks_no, silent_sends, silent_received}

shown_all : {State Call : Type 0} (g : SharedRefinement State Call) (l : ℕ) (ns : List Notice) → ((n : Notice) → Shown g (Entered l) n) → AreShown g (Entered l) ns
shown_all g l [] h = tt
shown_all g l (n ∷ ns) h = (h n, shown_all g l ns h)

-- what a frame of this origin has to show
abbrev ShowsAll : {State Call : Type 0} → SharedRefinement State Call → Origin Call → Type 0
ShowsAll g (Called c) = Unit {0}
ShowsAll g (Entered l) = (n : Notice) → Shown g (Entered l) n

shows_calm : {State Call : Type 0} (g : SharedRefinement State Call) (origin : Origin Call) → AsksNone g origin → ShowsAll g origin
shows_calm g (Called c) h = tt
shows_calm g (Entered l) h = h

asks_nothing : {State Call : Type 0} (g : Setting State Call) (c : Call) (e : Event) (out : Option (Outcome State)) → is_reset_service (g.machine.service_of c) ≡ false → false ≡ asks_reset g.machine (Called c) (Some e) out
asks_nothing g c e out h = sym (asks_no g.machine c (Some e) out h)

-- where no frame may reset the chip or begin a serial word, no move does
pub calm_by : {State Call : Type 0} (g : Setting State Call) → ((origin : Origin Call) (made : Move) → g.may origin made ≡ true → (resets_chip made ≡ false) × (begins_word made ≡ false)) → (origin : Origin Call) (made : Move) → is_shared made || g.may origin made ≡ true → (resets_chip made ≡ false) × (begins_word made ≡ false)
calm_by g none origin (Read r) h = none origin (Read r) h
calm_by g none origin (Write r v) h = none origin (Write r v) h
calm_by g none origin (Load k) h = none origin (Load k) h
calm_by g none origin (Store k v) h = none origin (Store k v) h
calm_by g none origin Mask h = (refl, refl)
calm_by g none origin Unmask h = (refl, refl)
calm_by g none origin (Note n) h = (refl, refl)
calm_by g none origin (Report n) h = (refl, refl)

pub plain_turns : (bound : ℕ) (was is : Bool) (room later : ℕ) (made : Move) (e : Option Event) (left : Option Done) → is_shared made ≡ false → KeepsMask was is room later e left → TurnsMask bound was is room later made e left
plain_turns bound was is room later (Read r) e left p h = h
plain_turns bound was is room later (Write r v) e left p h = h
plain_turns bound was is room later (Load n) e left p h = h
plain_turns bound was is room later (Store n v) e left p h = h
plain_turns bound was is room later Mask e left p h = absurd (cc)
plain_turns bound was is room later Unmask e left p h = absurd (cc)
plain_turns bound was is room later (Note n) e left p h = absurd (cc)
plain_turns bound was is room later (Report n) e left p h = absurd (cc)

stays_closed : (room later : ℕ) (e : Option Event) (left : Option Done) → ShortensTo room later left → KeepsMask true true room later e left
stays_closed room later e None h = (refl, h)
stays_closed room later e (Some n) h = h

module _ {State Call Body : Type 0} (g : SharedRefinement State Call) (b : LongBodies g Body) (below : List (ReservedBy Call g.Reservation)) (before chip : Chip) (w : World) (s : State) (origin : Origin Call) (clean : Bool) (x y : ℕ) (past : FrameHistory) (missed : ℕ → Bool) (k : Body) (e : Option Event) (left : Option Done) where
  pub plain_makes : (made : Move) → is_shared made ≡ false → Works g b below before chip w s origin made clean x y past missed k e left → Makes g b below before chip w s origin made clean x y past missed k e left
  plain_makes (Read r) p h = h
  plain_makes (Write r v) p h = h
  plain_makes (Load n) p h = h
  plain_makes (Store n v) p h = h
  plain_makes Mask p h = absurd (cc)
  plain_makes Unmask p h = absurd (cc)
  plain_makes (Note n) p h = absurd (cc)
  plain_makes (Report n) p h = absurd (cc)

module _ {State Call Body : Type 0} (g : SharedRefinement State Call) (b : Bodies (over g []) Body) (place : Places g Body) (below : List (ReservedBy Call g.Reservation)) (before chip : Chip) (w : World) where
  stops_same : (origin : Origin Call) (t : Told) (times : ℕ → Option ℕ) (missed : ℕ → Bool) (n : Done) → ShowsAll g origin → TellsAs g.setting.machine origin t n → MayStop g origin (past_of g.setting.machine (Some t) origin times) missed n
  stops_same (Called c) t times missed n shows h = record { may = (ap (λ x. Some x) h.0, refl); served = false; owed = ap (owing false) h.1; shown = λ e. absurd (cc); report = h.2 }
  stops_same (Entered l) t times missed n shows h = record { may = (ap (λ x. x || missed l) (same_line l), h.0); served = true; owed = ap (owing true) h.1; shown = λ e. shown_all g l (notices_in n.owed) shows; report = sym h.2 }

  goes_same : (s : State) (origin : Origin Call) (told : Option Told) (times : ℕ → Option ℕ) (missed : ℕ → Bool) (k : Body) (left : Option Done) → ShowsAll g origin → GoesOn (over g below) (above g b place below) chip w s origin told missed k left → Continues g (short g b place) below chip w s origin (past_of g.setting.machine told origin times) missed k left
  goes_same s origin told times missed k None shows h = (h.0, record { told = told; is = refl; at = h.1 })
  goes_same s origin (Some t) times missed k (Some n) shows h = (h.0, stops_same origin t times missed n shows h.1)
  goes_same s (Called c) None times missed k (Some n) shows h = absurd h
  goes_same s (Entered l) None times missed k (Some n) shows h = (h.0, record { may = (h.1, ap (λ x. x.answer) h.2); served = false; owed = ap (λ x. owing false (notices_in x.owed)) (sym h.2); shown = λ e. absurd (cc); report = ap (λ x. error_in x.owed) (sym h.2) })

  works_same : (s : State) (origin : Origin Call) (made : Move) (clean : Bool) (x y : ℕ) (told : Option Told) (times : ℕ → Option ℕ) (missed : ℕ → Bool) (k : Body) (e : Option Event) (left : Option Done) → IsSilentMove g origin made → StepsRight (over g below) (above g b place below) chip w s origin made clean told missed k e left → Works g (short g b place) below before chip w s origin made clean x y (past_of g.setting.machine told origin times) missed k e left
  works_same s origin made clean x y told times missed k None left calm h = goes_same s origin told (committed_after w times made) missed k left (shows_calm g origin calm.call) h
  works_same s (Called c) made clean x y None times missed k (Some Act) left calm h = record {
    may = refl;
    stands = tt;
    state = h.state;
    told = h.told;
    begins = None;
    is = h.is (brought_by w times made y);
    sends = silent_sends before made calm.silent;
    acts = h.acts;
    reset = calm.still ∙ asks_nothing g.setting c Act (Some (outcome h.state h.told)) calm.call.0;
    next = subst (λ q. Continues g (short g b place) below chip w h.state (Called c) (record { acted = Some h.told.answer; polled = q; served = []; missed = []; committed = committed_after w times made; owed = owing false h.told.notices; report = report_of g.setting.machine c h.told.error }) missed k left) (sym (calm.call.1 w s)) (goes_same h.state (Called c) (Some h.told) (committed_after w times made) missed k left tt h.next);
  }
  works_same s (Entered l) made clean x y None times missed k (Some Act) left calm h = absurd h.own
  works_same s (Called c) made clean x y None times missed k (Some (Serve j)) left calm h = absurd h.own
  works_same s (Entered l) made clean x y None times missed k (Some (Serve j)) left calm h = record {
    may = (h.own, refl);
    stands = tt;
    state = h.state;
    told = h.told;
    begins = None;
    is = h.is (brought_by w times made y);
    sends = silent_sends before made calm.silent;
    acts = tt;
    reset = calm.still;
    next = subst (λ q. Continues g (short g b place) below chip w h.state (Entered l) (record { acted = None; polled = []; served = q ∷ []; missed = []; committed = committed_after w times made; owed = owing true h.told.notices; report = None }) missed k left) (sym h.own) (goes_same h.state (Entered l) (Some h.told) (committed_after w times made) missed k left calm.call h.next);
  }
  works_same s (Called c) made clean x y None times missed k (Some (Abort u)) left calm h = absurd h.own
  works_same s (Called c) made clean x y None times missed k (Some (Start u)) left calm h = absurd h.own
  works_same s (Entered l) made clean x y None times missed k (Some (Abort u)) left calm h = absurd h.own
  works_same s (Entered l) made clean x y None times missed k (Some (Start u)) left calm h = absurd h.own
  works_same s origin made clean x y (Some t) times missed k (Some e) left calm h = absurd h

module _ {State Call Body : Type 0} (g : SharedRefinement State Call) (law : IsBasis g) (b : Bodies (over g []) Body) (place : Places g Body) (p : (below : List (ReservedBy Call g.Reservation)) → AreRight (over g below) (above g b place below))
    (calm : (below : List (ReservedBy Call g.Reservation)) (chip : Chip) (w : World) (s : State) (k : Body) (o : Origin Call) (t : Option Told) → At (over g below) (above g b place below) chip w s k o t → IsSilentMove g o (b.work_of k)) where
  plain : (below : List (ReservedBy Call g.Reservation)) (chip : Chip) (w : World) (s : State) (k : Body) (o : Origin Call) (t : FrameHistory) → AssertedAt g (short g b place) below chip w s k o t → is_shared (b.work_of k) ≡ false
  plain below chip w s k o t h = law.owns_plain o (b.work_of k) (law.may_owns o (b.work_of k) ((p below).own chip w s k o h.1.told (h.0, h.1.at)))

  turns : (below : List (ReservedBy Call g.Reservation)) (chip : Chip) (w : World) (s : State) (k : Body) (o : Origin Call) (t : FrameHistory) → AssertedAt g (short g b place) below chip w s k o t → TurnsTo (short g b place) (g.setting.window_of o) k (b.takes k (value_of chip (b.work_of k)))
  turns below chip w s k o t h =
      let x = b.takes k (value_of chip (b.work_of k)) in
      plain_turns (g.setting.window_of o) true true (b.fuel k) (b.fuel x.0) (b.work_of k) x.1.event x.1.done (plain below chip w s k o t h) (stays_closed (b.fuel k) (b.fuel x.0) x.1.event x.1.done ((p below).shortens k (value_of chip (b.work_of k))))

  steps : (below : List (ReservedBy Call g.Reservation)) (chip : Chip) (w : World) (s : State) (k : Body) (o : Origin Call) (received : ℕ) (t : FrameHistory) (m : ℕ → Bool) → ComesRight chip w (b.work_of k) received → g.count s < most_steps → AssertedAt g (short g b place) below chip w s k o t → Right g (short g b place) below chip w s k o received t m
  steps below chip w s k o received t m come few h =
      let made = b.work_of k in
      let v = value_of chip made in
      let x = b.takes k v in
      let i = h.1 in
      let past = past_of g.setting.machine i.told o t.committed in
      let missed = missed_after g.setting.machine w s m in
      let quiet = calm below chip w s k o i.told (h.0, i.at) in
      let none = silent_received chip w made received quiet.silent come.1 in
      let right = subst (λ n. StepsTo (over g below) (above g b place below) (chip_after chip made n) w s o made (b.clean k) i.told missed x) (sym none) ((p below).steps chip w s k o i.told m (h.0, i.at)) in
      subst (λ y. Right g (short g b place) below chip w s k o received y m) (sym i.is) (plain_makes g (short g b place) below chip (chip_after chip made received) w s o (b.clean k) v received past missed x.0 x.1.event x.1.done made (plain below chip w s k o t h) (works_same g b place below chip (chip_after chip made received) w s o made (b.clean k) v received i.told t.committed missed x.0 x.1.event x.1.done quiet right))

  pub short_right : AreLong g (short g b place)
  short_right = record {
    own = λ below chip w s k o t h. or_true (is_shared (b.work_of k)) ((p below).own chip w s k o h.1.told (h.0, h.1.at));
    turns = turns;
    steps = steps;
    later = λ below chip w s order k o t come shut h. record { told = h.1.told; is = h.1.is; at = (p below).later chip w s order k o h.1.told (record { frames = come.frames; free = come.free }) (h.0, h.1.at) };
    calm = λ below chip w s k o t h e. let quiet = calm below chip w s k o h.1.told (h.0, h.1.at) in (quiet.still, quiet.silent);
    shortens = λ k x. (p []).shortens k x;
    cleans = λ k x. (p []).cleans k x;
  }

-- ---- drivers of short services alone

-- what isn't used isn't due
not_used : (due used : Bool) → (due ≡ true → used ≡ true) → used ≡ false → due ≡ false
not_used true used h e = let k = h refl in absurd (cc)
not_used false used h e = refl

pub unheld_right : {State Call : Type 0} (g : Refinement State Call) → IsGround g → IsBasis (unheld g)
unheld_right g law = record {
  starts = law.starts;
  moves = λ held chip w s order come. law.moves w s order;
  resets = λ held. law.resets;
  agrees_later = λ held gap chip w s order come shut. law.agrees_later gap chip w s order (record { frames = come.frames; free = come.free });
  agrees_apart = λ held. law.agrees_apart g.settled;
  may_owns = law.may_owns;
  owns_plain = law.owns_plain;
  may_there = law.may_there;
  enables = law.enables;
  loads = law.loads;
  watched = λ held. law.watched;
  unwatched = law.unwatched;
  owns_called = law.owns_called;
  used_lines = law.used_lines;
  due_used = λ held. law.due_used;
  pends = λ held chip w s line there h e. law.pends chip w s line there h ∙ e;
  unused = λ held chip w s line there h free. law.pends chip w s line there h ∙ not_used (g.setting.machine.due w s line) (g.setting.used line) (law.due_used chip w s line h) free;
  rests = law.pends;
  unmasked = λ held chip w s origins among. law.unmasked chip w s origins;
  rest = law.rest;
  waits = law.waits;
  error_leaves = law.error_leaves;
  count_first = law.count_first;
  count_happens = law.count_happens;
  count_moves = law.count_moves;
  count_resets = law.count_resets;
  rate_starts = law.rate_starts;
  rated = Steady law.may_steady law.rate_happens;
  rate_moves = λ w s order out e. law.rate_happens w s (Moves order) out e;
  rate_resets = law.rate_resets;
}

module _ {State Call Asked Body : Type 0} (d : Outlined State Call Asked Body) (law : IsOutlined d) where
  decides : (below : List (ReservedBy Call ⊥)) (chip : Chip) (w : World) (s : State) (c : Call) (l : Looked Body) → LooksRight d chip w s c l → Decides (services_of d) below chip w s c l
  decides below chip w s c (Refused n) h = record { told = h.told; is = h.is; tells = h.tells; reset = asks_no d.basis.setting.machine c (Some Act) (Some (outcome s h.told)) (law.basis.asks_none c); polls = law.basis.polls_none w s c }
  decides below chip w s c (Goes k) h = record { at = (h.0.0, record { told = None; is = refl; at = h.0.1 }); closed = refl; fuel = h.1; room = h.1 }

  enters : (line : ℕ) (k : Body) → d.body_of line ≡ Some k → CanBegin (services_of d) k (Entered line)
  enters line k e = let h = law.enters line k e in record { at = λ below chip w s beside i. let x = h.at chip w s i in (x.0, record { told = None; is = refl; at = x.1 }); closed = refl; unseen = h.unseen; room = h.room }

  asks_at : (o : Origin Call) → AsksNone (unheld d.basis) o
  asks_at (Called c) = (law.basis.asks_none c, λ w s. law.basis.polls_none w s c)
  asks_at (Entered l) = λ n held chip w s h. law.basis.shows chip w s (Entered l) n h

  calm : (chip : Chip) (w : World) (s : State) (k : Body) (o : Origin Call) (t : Option Told) → At d.basis d.bodies chip w s k o t → IsSilentMove (unheld d.basis) o (d.bodies.work_of k)
  calm chip w s k o t h =
      let may = law.bodies.own chip w s k o t h in
      record { still = law.basis.resets_none o (d.bodies.work_of k) may; silent = law.basis.words_none o (d.bodies.work_of k) may; call = asks_at o }

  -- a call that has done nothing was told nothing
  unseen_by : (chip : Chip) (w : World) (s : State) (k : Body) (c : Call) (told : Option Told) → d.basis.represents (d.bodies.gap_of k) chip w s → fresh_history ≡ past_of d.basis.setting.machine told (Called c) fresh_history.committed → d.bodies.place (d.basis.foot chip) w s k (Called c) told → Starts (d.seen k)
  unseen_by chip w s k c None a is at = law.unseen chip w s k c (a, at)
  unseen_by chip w s k c (Some t) a is at = let e : None ≡ Some t.answer = ap (λ x. x.acted) is in absurd (cc)

  pub short_services : AreServices (services_of d)
  short_services = record {
    basis = unheld_right d.basis law.basis;
    bodies = short_right (unheld d.basis) (unheld_right d.basis law.basis) d.bodies (λ below. d.bodies.place) (λ below. law.bodies) (λ below. calm);
    windows = λ below chip w s k o t h. law.windows chip w s k o h.1.told (h.0, h.1.at);
    unseen = λ below chip w s k c h. unseen_by chip w s k c h.1.told h.0 h.1.is h.1.at;
    writes = no_duties (services_of d) (λ k c writes. tt) law.must_none;
    starts = no_units (services_of d) law.units_none;
    looks = λ below chip w s c can beside h. decides below chip w s c (d.looked (d.asked c) (value_of chip (Load d.word))) (law.looks chip w s c can h);
    own_word = law.own_word;
    word_there = law.word_there;
    handled = law.handled;
    enters = enters;
    call_steps = law.call_steps;
    call_window = law.call_window;
    line_steps = law.line_steps;
  }

  pub short_lawful : IsLawful (driver_of d) (short_move d.word d.bodies.work_of) (short_left d.looked d.bodies.takes) (short_gave d.looked d.bodies.takes)
  short_lawful = services_lawful (services_of d) short_services
