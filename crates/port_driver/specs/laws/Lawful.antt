-- The driver of the pins, as the outline and the runner see it, and that it is lawful.
-- From Look, Init, Latches, service_outline: Duties, Refresh and 8 more.
-- Used by frames/rt, Guests, mcal_drivers: Laws, caller/rt, Keeps and 3 more.
use Rattle.std.proofs.Common.{◌≡◌, ◌+◌, ◌≤◌, ◌==◌, ◌&&◌, ◌||◌, [], ◌∷◌, ◌∙◌}
use Rattle.port_driver.specs.Terms
use Terms.{Act, acts_by, AllLet, AllMade, Alone, and_first, ap, AreLong, AreServices, arith, Asked, asks_reset}
use Terms.{AssertedAt, At, Beside, blocks, both, both_right, Call, call_steps, Called, CaptureCountHigh}
use Terms.{CaptureTimeHigh, Chip, class_of, Closes, configured, Decides, Done, error_by, error_told, ErrorName, false}
use Terms.{First, FitsPort, Follows, FrameHistory, free_windows, Goes, HeldRight, Init, InitDone, Is_alone, is_guests, is_of_init}
use Terms.{Is_this_frame, is_windowed, IsLawful, List, Load, LongBodies, MadeUnless, MakesWrites, mark_of, may, Move}
use Terms.{must_by, names_there, nat_lt, no_answer, no_units, None, none_on, none_unless, not, Open, Opens, Option, Origin, outcome, owns, SweepStage, Plain, port_basis, port_machine, port_setting, PortTable, PortRepresents, PortState, PulseCommit, PulseIdle, Read, refl, RefreshPortDirection, Refused, Reservations, Second, Services, services_driver, services_lawful, SetPinDirection, SetPinMode, Setup, Short, short_gave, short_left, short_move, Some, STATE, subst, sym, tells_error, TimerHigh, true, value_of, word_of, World, Write, writes_after, writes_latches, WritesOn, ℕ}
use Rattle.mcal_base.specs.declared.register.Reg.TheVariants.{SerialWait}
use Rattle.port_driver.specs.laws.{Bodies.{PortBody, init_body}, RefinementRight.{basis_right, may_dry}}
use Rattle.port_driver.specs.laws.{Init.{init_bodies, init_right, begins_init, setup_at, Is_setup}}
use Rattle.port_driver.specs.laws.{Latches.{written_at, next_written, level_more, all_latches}, Look.{port_looked}}
use Rattle.port_driver.specs.laws.{Look.{looked_by, begins, direction_within, mode_within, mode_given, asked_word}}
use Rattle.port_driver.specs.laws.{Pins.{pin_bodies, pin_right}, Ranks.{configured_few}, Refresh.{refresh_bodies}}
use Rattle.port_driver.specs.laws.{Refresh.{refresh_right, Is_same}}
use Rattle.module_machines.specs.declared.port.call.Call.TheVariants as calls
use Rattle.port_driver.specs.declared.service.init.InitDone.TheVariants as inits

abbrev pub port_bodies : (d : PortTable) → LongBodies (port_basis d) PortBody
port_bodies d = both (init_bodies d) (both (refresh_bodies d) (pin_bodies d))

-- the steps of a call's body, at most
abbrev pub most_by : PortTable → Call → ℕ
most_by d Init = 12 + configured d
most_by d _ = 4

-- Port_Init has made the writes of levels that lie before its place, and another call owes none
abbrev pub port_written : PortTable → PortBody → Call → List Move → Type 0
port_written d (First k) c writes = (c ≡ Init) × written_at d k.place writes
port_written d (Second k) c writes = must_by d c ≡ []

abbrev pub port : PortTable → Services PortState Call Asked PortBody
port d = record {
  basis = port_basis d;
  bodies = port_bodies d;
  seen = λ k. Plain;
  written = port_written d;
  fits = FitsPort d;
  can = λ c. Unit {0};
  word = STATE;
  asked = λ c. record { call = c; driver = d };
  looked = port_looked;
  most = λ q. most_by d q.call;
  wide = λ q. 4;
  body_of = λ l. None;
}

goes_to : {Body : Type 0} {x y : Body} → Goes x ≡ Goes y → x ≡ y
goes_to e = cc

-- beside what holds anything no call of the module begins
blocked : (d : PortTable) (call : Call) (o : Origin Call) → o ≡ Called Init → blocks (class_of call) (mark_of (port_setting d) o) ≡ true
blocked d call o e = ap (λ (x : Origin Call). blocks (class_of call) (mark_of (port_setting d) x)) e ∙ by call
  where
    by : (call : Call) → blocks (class_of call) (mark_of (port_setting d) (Called Init)) ≡ true
    by Init = refl
    by RefreshPortDirection = refl
    by (calls.Pin p call) = refl

alone : (d : PortTable) (call : Call) (below : Reservations) → HeldRight below → AllLet (port_setting d) (class_of call) below → Alone below
alone d call [] right lets = Is_alone
alone d call (h ∷ hs) right lets = absurd (let f = sym (blocked d call h.by right.0) ∙ lets.0 in cc)

asks_none : (d : PortTable) (call : Call) (s : PortState) (e : ErrorName) → asks_reset (port_machine d) (Called call) (Some Act) (Some (outcome s (tells_error no_answer e))) ≡ false
asks_none d Init s e = refl
asks_none d RefreshPortDirection s e = refl
asks_none d (calls.Pin p (SetPinDirection x)) s e = refl
asks_none d (calls.Pin p (SetPinMode m)) s e = refl

goes_on : (d : PortTable) (below : Reservations) (chip : Chip) (w : World) (s : PortState) (call : Call) → Alone below → PortRepresents d below 0 chip w s → error_by d call (not s.initialised) ≡ None → Decides (port d) below chip w s call (begins d call)
goes_on d below chip w s Init Is_alone h pass = record { at = (begins_init d chip w s h, (Is_setup, (Is_this_frame, Is_alone))); closed = refl; fuel = omega arith; room = omega arith }
goes_on d below chip w s RefreshPortDirection Is_alone h pass = record { at = (h, (Is_same, Is_this_frame, Is_alone, omega arith, pass)); closed = refl; fuel = omega arith; room = omega arith }
goes_on d below chip w s (calls.Pin p (SetPinDirection x)) Is_alone h pass = record { at = (h, (Is_this_frame, Is_alone, direction_within d p x (not s.initialised) pass, pass)); closed = refl; fuel = omega arith; room = omega arith }
goes_on d below chip w s (calls.Pin p (SetPinMode (Some m))) Is_alone h pass = record { at = (h, (Is_this_frame, Is_alone, mode_within d p (Some m) (not s.initialised) pass, pass)); closed = refl; fuel = omega arith; room = omega arith }
goes_on d below chip w s (calls.Pin p (SetPinMode None)) a h pass = absurd (mode_given d p (not s.initialised) pass)

module _ (d : PortTable) (below : Reservations) (chip : Chip) (w : World) (s : PortState) (h : PortRepresents d below 0 chip w s) where
  look_by : (call : Call) → Alone below → (e : Option ErrorName) → error_by d call (not s.initialised) ≡ e → Decides (port d) below chip w s call (looked_by (record { call = call; driver = d }) e)
  look_by call a None e = goes_on d below chip w s call a h e
  look_by call a (Some x) e = record {
    told = tells_error no_answer x;
    is = λ times. ap (λ y. Some (acts_by d s call y)) e;
    tells = error_told (port_machine d) call no_answer x;
    reset = asks_none d call s x;
    polls = refl;
  }

  looks : (call : Call) → Beside (port_setting d) (Called call) below → Decides (port d) below chip w s call (port_looked (record { call = call; driver = d }) (word_of chip STATE))
  looks call beside = subst (λ q. Decides (port d) below chip w s call (looked_by (record { call = call; driver = d }) (error_by d call q))) (sym (ap (λ v. v == 0) h.word ∙ asked_word s.initialised)) (look_by call (alone d call below h.right beside) (error_by d call (not s.initialised)) refl)

-- it reads no high half, and sets no output
no_windows : (made : Move) → owns made ≡ true → is_windowed made ≡ false
no_windows (Read (TimerHigh c)) e = absurd (cc)
no_windows (Read (CaptureCountHigh c)) e = absurd (cc)
no_windows (Read (CaptureTimeHigh c)) e = absurd (cc)
no_windows (Read (SerialWait u)) e = absurd (cc)
no_windows (Write (PulseCommit c) v) e = absurd (cc)
no_windows (Write (PulseIdle c) v) e = absurd (cc)
no_windows _ e = refl

module _ (d : PortTable) where
  bodies_right : AreLong (port_basis d) (port_bodies d)
  bodies_right = both_right (port_basis d) (init_bodies d) (both (refresh_bodies d) (pin_bodies d)) (init_right d) (both_right (port_basis d) (refresh_bodies d) (pin_bodies d) (refresh_right d) (pin_right d))

  steps_by : (call : Call) → 7 + most_by d call ≤ call_steps d call
  steps_by Init = let few = configured_few d in omega (arith, few)
  steps_by RefreshPortDirection = omega arith
  steps_by (calls.Pin p call) = omega arith

  -- what a call has written that goes on, and one that doesn't
  begun_written : (c : Call) (e : Option ErrorName) (k : PortBody) → looked_by (record { call = c; driver = d }) e ≡ Goes k → port_written d k c []
  begun_written Init None k e = subst (λ b. port_written d b Init []) (goes_to e) (refl, tt)
  begun_written RefreshPortDirection None k e = subst (λ b. port_written d b RefreshPortDirection []) (goes_to e) refl
  begun_written (calls.Pin p (SetPinDirection x)) None k e = subst (λ b. port_written d b (calls.Pin p (SetPinDirection x)) []) (goes_to e) refl
  begun_written (calls.Pin p (SetPinMode (Some m))) None k e = subst (λ b. port_written d b (calls.Pin p (SetPinMode (Some m))) []) (goes_to e) refl
  begun_written (calls.Pin p (SetPinMode None)) None k e = absurd (cc)
  begun_written c (Some x) k e = absurd (cc)

  refused_written : (c : Call) (x : ℕ) (n : Done) (error : Option ErrorName) → port_looked (record { call = c; driver = d }) x ≡ Refused n → MadeUnless error (must_by d c) []
  refused_written Init x n error e = let goes : Goes (init_body (record { driver = d })) ≡ Refused n = e in absurd (cc)
  refused_written RefreshPortDirection x n error e = none_unless error [] [] refl
  refused_written (calls.Pin p call) x n error e = none_unless error [] [] refl

  init_steps : (below : Reservations) (chip : Chip) (w : World) (s : PortState) (a : Setup) (p : SweepStage InitDone) (c : Call) (past : FrameHistory) (writes : List Move) → AssertedAt (port_basis d) (init_bodies d) below chip w s (record { objects = a; place = p }) (Called c) past → c ≡ Init → written_at d p writes → let x = (init_bodies d).takes (record { objects = a; place = p }) (value_of chip ((init_bodies d).work_of (record { objects = a; place = p }))) in WritesOn (port d) c (writes_after writes ((init_bodies d).work_of (record { objects = a; place = p }))) (First x.0) x.1.done
  init_steps below chip w s a Opens c past writes h is has = (is, next_written d (8 + configured a.driver) 0 writes (omega arith) (omega arith) (λ j lt four. absurd (omega (arith, lt))))
  init_steps below chip w s a (At i) c past writes (represents, ((Is_setup, held), lt)) is has = (is, next_written d (8 + configured d) (i + 1) (writes_after writes (setup_at d i (nat_lt i 4) (nat_lt i (4 + configured d)))) (omega arith) (omega (arith, lt)) (level_more d i (nat_lt i (4 + configured d)) writes has))
  init_steps below chip w s a Closes c past writes h is has = (is, has)
  init_steps below chip w s a (Follows inits.Store) c past writes h is has = subst (λ x. AllMade (must_by d x) writes) (sym is) (all_latches d writes has)

  steps_at : (below : Reservations) (chip : Chip) (w : World) (s : PortState) (k : PortBody) (c : Call) (past : FrameHistory) (writes : List Move) → AssertedAt (port_basis d) (port_bodies d) below chip w s k (Called c) past → port_written d k c writes → let p = (port_bodies d).takes k (value_of chip ((port_bodies d).work_of k)) in WritesOn (port d) c (writes_after writes ((port_bodies d).work_of k)) p.0 p.1.done
  steps_at below chip w s (First k) c past writes h has = init_steps below chip w s k.objects k.place c past writes h has.0 has.1
  steps_at below chip w s (Second k) c past writes h has = let p = (both (refresh_bodies d) (pin_bodies d)).takes k (value_of chip ((both (refresh_bodies d) (pin_bodies d)).work_of k)) in none_on (port d) c (writes_after writes ((both (refresh_bodies d) (pin_bodies d)).work_of k)) (Second p.0) p.1.done has has

  port_writes : MakesWrites (port d) (λ k. None)
  port_writes = record {
    begins = λ c x k can looks. begun_written c (error_by d c (x == 0)) k looks;
    refuses = λ below chip w s c n told can represents looks is. refused_written c (value_of chip (Load STATE)) n told.error looks;
    steps = steps_at;
    stops = λ below chip w s k c past writes a at has ends. let none : None ≡ Some a = ends in absurd (cc);
  }

  pub port_right : AreServices (port d)
  port_right = record {
    basis = basis_right d;
    bodies = bodies_right;
    windows = free_windows (port d) bodies_right (λ k. refl) (λ o made h. no_windows made (and_first (owns made) (not (is_guests made) && names_there made) (and_first (may made) (is_of_init o || not (writes_latches made)) h)));
    unseen = λ below chip w s k c h. tt;
    writes = port_writes;
    starts = no_units (port d) (λ w s line. refl);
    looks = λ below chip w s c can beside h. looks d below chip w s h c beside;
    own_word = λ o. may_dry o (Load STATE) refl refl;
    word_there = omega arith;
    handled = λ line. refl;
    enters = λ line k e. absurd (cc);
    call_steps = λ c can. steps_by c;
    call_window = λ c can. omega arith;
    line_steps = λ line k e. absurd (cc);
  }

  -- whatever runs above them, the frames of the driver are right at each step
  pub lawful : IsLawful (services_driver (port d)) (short_move STATE (port d).bodies.work_of) (short_left (port d).looked (port d).bodies.takes) (short_gave (port d).looked (port d).bodies.takes)
  lawful = services_lawful (port d) port_right

-- it leaves the peripheral rate alone, and has no watchdog
pub slow_pins : (d : PortTable) (chip : Chip) (w : World) (ps : List (Short Asked PortBody × Open Call)) (s : PortState) → FitsPort d → (services_driver (port d)).relates chip w ps s → (services_driver (port d)).setting.machine.rate s ≤ 16
slow_pins d chip w ps s fits h = omega arith
