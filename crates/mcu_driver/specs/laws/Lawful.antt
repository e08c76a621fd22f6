-- The driver of clock, RAM and resets, as the outline and the runner see it, and that it owes nothing.
-- From Look, Fill, service_outline: Duties, Bodies, Clock and 7 more.
-- Used by mcal_drivers: proofs/Hosting, mcal_drivers: Laws, frames/rt, mcal_system: proofs/Resting and 4 more.
use Rattle.std.proofs.Common.{◌≡◌, ◌+◌, ◌≤◌, [], ◌∷◌, ◌∙◌, if◌then◌else◌}
use Rattle.mcu_driver.specs.Terms
use Terms.{Act, acts_by, AllLet, and_first, answer_refused, ap, AreLong, AreServices, arith, Asked, asks_reset, Beside}
use Terms.{Bool, both, both_right, Call, call_steps, Called, Calling, CaptureCountHigh, CaptureTimeHigh, Chip, class_of}
use Terms.{Clock, ClockBody, Decides, DistributePllClock, Entering, error_by, error_told, ErrorName, false, FitsMcu}
use Terms.{free_windows, GetPllStatus, GetResetReason, Goes, Init, InitClock, InitRamSection, Inside, is_locked}
use Terms.{is_some, Is_this_frame, is_windowed, List, Loading, LongBodies, Looked, mcu_basis, mcu_machine, mcu_setting, McuTable, McuRepresents, McuState, Move, multiplier_of, names_there, nat_lt, nat_tests, no_duties, no_units, None, not, Open, Opening, Option, Or, outcome, owns, PerformReset, Plain, PulseCommit, PulseIdle, QueryBody, Read, refl, Reservations, Returning, Section, section_of, Services, services_driver, SetMode, Short, size_of, Some, STATE, StateBody, subst, sym, Telling, tells_error, TimerHigh, true, word_of, World, Write, ℕ}
use Rattle.mcal_base.specs.declared.register.Reg.TheVariants.{SerialWait}
use Rattle.mcu_driver.specs.laws.{Bodies.{McuBody, fill_body}, Clock.{clock_bodies, clock_right}, Fill.{fill_bodies}}
use Rattle.mcu_driver.specs.laws.{Fill.{fill_right, free_by, begun}, RefinementRight.{basis_right}, Look.{mcu_looked}}
use Rattle.mcu_driver.specs.laws.{Look.{looked_by, begins, begun_filling, begun_starting, narrow, fill, Passed, on_of}}
use Rattle.mcu_driver.specs.laws.{Look.{section_there, multiplier_there, unhindered, distribute_by, early, asked_word}}
use Rattle.mcu_driver.specs.laws.{Query.{query_bodies, query_right}, Reset.{reset_bodies, reset_right}}
use Rattle.mcu_driver.specs.laws.{State.{state_bodies, state_right}}

abbrev pub plain_bodies : (d : McuTable) → LongBodies (mcu_basis d) (Or StateBody (Or QueryBody ClockBody))
plain_bodies d = both (state_bodies d) (both (query_bodies d) (clock_bodies d))

abbrev pub mcu_bodies : (d : McuTable) → LongBodies (mcu_basis d) McuBody
mcu_bodies d = both (plain_bodies d) (both (reset_bodies d) (fill_bodies d))

-- the most steps of a call's body: one a word of a section, and a few
abbrev pub most_of : McuTable → Call → ℕ
most_of d (InitRamSection n) = 4 + size_of (section_of d n)
most_of d _ = 2

-- the driver; any call may be made
abbrev pub mcu : McuTable → Services McuState Call Asked McuBody
mcu d = record {
  basis = mcu_basis d;
  bodies = mcu_bodies d;
  seen = λ k. Plain;
  written = λ k call writes. Unit {0};
  fits = FitsMcu d;
  can = λ call. Unit {0};
  word = STATE;
  asked = λ call. record { call = call; driver = d };
  looked = mcu_looked;
  most = λ q. most_of q.driver q.call;
  wide = λ q. 2;
  body_of = λ line. None;
}

bodies_right : (d : McuTable) → FitsMcu d → AreLong (mcu_basis d) (mcu_bodies d)
bodies_right d fits =
    let g = mcu_basis d in
    let clocks = both_right g (query_bodies d) (clock_bodies d) (query_right d) (clock_right d) in
    let plain = both_right g (state_bodies d) (both (query_bodies d) (clock_bodies d)) (state_right d) clocks in
    let others = both_right g (reset_bodies d) (fill_bodies d) (reset_right d) (fill_right d fits) in
    both_right g (plain_bodies d) (both (reset_bodies d) (fill_bodies d)) plain others

-- ---- what the load of the state word decides

narrow_small : (n : ℕ) → n ≤ 512 → narrow n ≡ n
narrow_small n le = by (nat_lt n 65536) (grind (arith, nat_tests))
  where
    by : (q : Bool) → q ≡ true → (if q then n else 0) ≡ n
    by true e = refl
    by false e = absurd (cc)

-- a section of a sound configuration is filled as it is
fill_same : (n : ℕ) (x : Section) → x.base + x.size ≤ 512 → fill n x ≡ record { section = n; base = x.base; size = x.size; value = x.default_value }
fill_same n x le = ap (λ b. record { section = n; base = b; size = narrow x.size; value = x.default_value }) (narrow_small x.base (omega (arith, le))) ∙ ap (λ z. record { section = n; base = x.base; size = z; value = x.default_value }) (narrow_small x.size (omega (arith, le)))

not_none : {A : Type 0} (k : Option A) → k ≡ None → is_some k ≡ true → ⊥
not_none k e i = let f : is_some k ≡ false = ap (λ x. is_some x) e in cc

module _ (d : McuTable) (fits : FitsMcu d) (below : Reservations) (chip : Chip) (w : World) (s : McuState) (h : McuRepresents d below chip w s) where
  abbrev Looks : Call → Looked McuBody → Type 0
  Looks call l = Decides (mcu d) below chip w s call l

  fills : (n : ℕ) (k : Option Section) → section_of d n ≡ k → AllLet (mcu_setting d) (class_of (InitRamSection n)) below → Passed d s (InitRamSection n) → Looks (InitRamSection n) (begun_filling n k)
  fills n None e l pass = absurd (not_none (section_of d n) e (section_there d s n pass))
  fills n (Some x) e l pass = subst (λ r. Looks (InitRamSection n) (Goes (fill_body r))) (sym (fill_same n x (fits.inside n x e))) (record {
    at = (begun d below chip w s n x e (on_of d s n pass) h, (Is_this_frame, e, free_by d s.initialised n below h.right l));
    closed = refl;
    fuel = subst (λ q. 3 + (x.size + 1) ≤ 4 + size_of q) (sym e) (omega arith);
    room = omega arith;
  })

  starts : (n : ℕ) (k : Option ℕ) → multiplier_of d n ≡ k → Passed d s (Clock (InitClock n)) → Looks (Clock (InitClock n)) (begun_starting k)
  starts n None e pass = absurd (not_none (multiplier_of d n) e (multiplier_there d s n pass))
  starts n (Some m) e pass = record {
    at = (h, (n, Is_this_frame, record { known = e; positive = (fits.multiplier n m e).0; slow = (fits.multiplier n m e).1; pass = unhindered d s (Clock (InitClock n)) refl pass }));
    closed = refl;
    fuel = omega arith;
    room = omega arith;
  }

  goes_on : (call : Call) → Beside (mcu_setting d) (Called call) below → Passed d s call → Looks call (begins d call)
  goes_on Init l pass = record { at = (h, Is_this_frame); closed = refl; fuel = omega arith; room = omega arith }
  goes_on (InitRamSection n) l pass = fills n (section_of d n) refl l pass
  goes_on (Clock (InitClock n)) l pass = starts n (multiplier_of d n) refl pass
  goes_on (Clock DistributePllClock) l pass = record { at = (h, ((Is_this_frame, distribute_by d s pass), refl)); closed = refl; fuel = omega arith; room = omega arith }
  goes_on GetPllStatus l pass = record { at = (h, (Is_this_frame, unhindered d s GetPllStatus refl pass)); closed = refl; fuel = omega arith; room = omega arith }
  goes_on GetResetReason l pass = record { at = (h, (Is_this_frame, unhindered d s GetResetReason refl pass)); closed = refl; fuel = omega arith; room = omega arith }
  goes_on PerformReset l pass = record { at = (h, (Is_this_frame, unhindered d s PerformReset refl pass)); closed = refl; fuel = omega arith; room = omega arith }
  goes_on (SetMode m) l pass = record { at = (h, (Is_this_frame, unhindered d s (SetMode m) refl pass)); closed = refl; fuel = omega arith; room = omega arith }

  -- an error asks for no reset
  stays_on : (call : Call) (x : ErrorName) → asks_reset (mcu_machine d) (Called call) (Some Act) (Some (outcome s (tells_error (answer_refused call) x))) ≡ false
  stays_on PerformReset x = refl
  stays_on Init x = refl
  stays_on (InitRamSection n) x = refl
  stays_on (Clock (InitClock n)) x = refl
  stays_on (Clock DistributePllClock) x = refl
  stays_on GetPllStatus x = refl
  stays_on GetResetReason x = refl
  stays_on (SetMode m) x = refl

  look_by : (call : Call) (e : Option ErrorName) → Beside (mcu_setting d) (Called call) below → error_by d call (not s.initialised) false ≡ e → Looks call (looked_by (record { call = call; driver = d }) e)
  look_by call None l e = goes_on call l e
  look_by call (Some x) l e = record { told = tells_error (answer_refused call) x; is = λ times. ap (λ y. Some (acts_by d w s call y)) (early d call (not s.initialised) (not (is_locked w s.pll)) x e); tells = error_told (mcu_machine d) call (answer_refused call) x; reset = stays_on call x; polls = refl }

  looks : (call : Call) → Beside (mcu_setting d) (Called call) below → Looks call (mcu_looked (record { call = call; driver = d }) (word_of chip STATE))
  looks call l = subst (λ x. Looks call (mcu_looked (record { call = call; driver = d }) x)) (sym h.state) (subst (λ q. Looks call q) (sym (asked_word d call s.initialised)) (look_by call (error_by d call (not s.initialised) false) l refl))

-- ---- the laws

call_steps_by : (d : McuTable) (call : Call) → 7 + most_of d call ≤ call_steps d call
call_steps_by d Init = omega arith
call_steps_by d (InitRamSection n) = omega arith
call_steps_by d _ = omega arith

-- it reads no high half, and sets no output
no_windows : (made : Move) → owns made ≡ true → is_windowed made ≡ false
no_windows (Read (TimerHigh c)) e = absurd (cc)
no_windows (Read (CaptureCountHigh c)) e = absurd (cc)
no_windows (Read (CaptureTimeHigh c)) e = absurd (cc)
no_windows (Read (SerialWait u)) e = absurd (cc)
no_windows (Write (PulseCommit c) v) e = absurd (cc)
no_windows (Write (PulseIdle c) v) e = absurd (cc)
no_windows _ e = refl

pub lawful : (d : McuTable) → FitsMcu d → AreServices (mcu d)
lawful d fits = record {
  basis = basis_right d;
  bodies = bodies_right d fits;
  windows = free_windows (mcu d) (bodies_right d fits) (λ k. refl) (λ o made h. no_windows made (and_first (owns made) (names_there made) h));
  unseen = λ below chip w s k call h. tt;
  writes = no_duties (mcu d) (λ k call writes. tt) (λ call. refl);
  starts = no_units (mcu d) (λ w s line. refl);
  looks = λ below chip w s call can l h. looks d fits below chip w s h call l;
  own_word = λ o. refl;
  word_there = omega arith;
  handled = λ line. refl;
  enters = λ line k e. absurd (cc);
  call_steps = λ call can. call_steps_by d call;
  call_window = λ call can. omega arith;
  line_steps = λ line k e. absurd (cc);
}

-- the peripheral rate is at most 16, and the driver has no watchdog
top_slow : (d : McuTable) (chip : Chip) (w : World) (f : Short Asked McuBody) (o : Open Call) (ps : List (Short Asked McuBody × Open Call)) (s : McuState) → (services_driver (mcu d)).relates chip w ((f, o) ∷ ps) s → s.rate ≤ 16
top_slow d chip w (Calling a) o ps s h = h.0.0.rate
top_slow d chip w (Loading a) o ps s h = h.0.0.rate
top_slow d chip w (Entering k) o ps s h = h.0.0.rate
top_slow d chip w (Inside k) o ps s h = h.0.at.0.rate
top_slow d chip w (Opening n) o ps s h = h.0.0.rate
top_slow d chip w (Telling n) o ps s h = h.0.0.rate
top_slow d chip w (Returning a) o ps s h = h.0.0.rate

pub slow_clock : (d : McuTable) (chip : Chip) (w : World) (ps : List (Short Asked McuBody × Open Call)) (s : McuState) → FitsMcu d → (services_driver (mcu d)).relates chip w ps s → (services_driver (mcu d)).setting.machine.rate s ≤ 16
slow_clock d chip w [] s fits h = h.rate
slow_clock d chip w (p ∷ ps) s fits h = top_slow d chip w p.0 p.1 ps s h
