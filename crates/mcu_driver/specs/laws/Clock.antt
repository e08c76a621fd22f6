-- Mcu_InitClock and Mcu_DistributePllClock: their steps, what holds at each, and that they are right.
-- From Base, Look, service_outline: Reports, RefinementRight, Query.
-- Used by service/clock/rt, Lawful.
use Rattle.std.proofs.Common.{◌≡◌, ◌+◌, ◌<◌, ◌≤◌, ◌==◌, ◌∙◌, if◌then◌else◌}
use Rattle.mcu_driver.specs.Terms
use Terms.{Act, acts_by, answers, ap, AreLong, arith, begins_word, bit_of, BodyTaken, Bool, Call, Called, Chip}
use Terms.{chip_after, Cleans, clock_of, ClockBody, clocked, ClockLock, ClockPll, ClockRate, distributed}
use Terms.{DistributePllClock, ends, ENotOk, EOk, Epilogue, error_by, error_told, false, FrameHistory, fresh_history}
use Terms.{goes, InitClock, is_locked, Is_this_frame, isnt_zero, IsSlowPll, IsThisFrame, LongBodies, Look, may, mcu_basis, mcu_machine, McuTable, McuPllNotLocked, McuRepresents, McuState, Move, multiplier_of, named, nat_le, nat_tests, None, not, Nothing, Option, Origin, outcome, owing, Pll, pll_of, Read, refl, Reservations, resets_chip, Shortens, Some, Start, subst, sym, Take, tells_error, true, value_of, World, Write, ℕ}
use Rattle.mcu_driver.specs.laws.{Base.{plain, WorksTo, plain_right, acted}, RefinementRight.{all_moved}, Look.{MayAct}}
use Rattle.mcu_driver.specs.laws.{Look.{locks, unlocked_owed}, Query.{lock_here}}
use Rattle.chip_blocks.specs.units.Clock as block
use Rattle.module_machines.specs.declared.mcu.call.Call.TheVariants as calls

abbrev pub clock_work : ClockBody → Move
clock_work (Start m) = Write ClockPll m
clock_work (Look w) = Read ClockLock
clock_work Take = Write ClockRate 1

abbrev pub look_takes : Epilogue → (unlocked : Bool) → ClockBody × BodyTaken
look_takes w unlocked = if unlocked then (Look w, ends (Some Act) (named ENotOk) w) else (Take, goes)

abbrev pub clock_takes : ClockBody → ℕ → ClockBody × BodyTaken
clock_takes (Start m) x = (Start m, ends (Some Act) (named EOk) Nothing)
clock_takes (Look w) x = look_takes w (x == 0)
clock_takes Take x = (Take, ends (Some Act) (named EOk) Nothing)

abbrev pub clock_left : ClockBody → ℕ
clock_left (Start m) = 1
clock_left (Look w) = 2
clock_left Take = 1

-- where it may find that the PLL isn't locked it has only loaded the state word
abbrev pub clock_clean : ClockBody → Bool
clock_clean (Look w) = true
clock_clean _ = false

abbrev pub distribute : Call
distribute = calls.Clock DistributePllClock

-- the setting has this multiplier, and its call may start the PLL with it
pub record IsStarting (d : McuTable) (s : McuState) (m setting : ℕ) : Type 0 where
  pub known : multiplier_of d setting ≡ Some m
  pub positive : 0 < m
  pub slow : m ≤ 16
  pub pass : MayAct d s (calls.Clock (InitClock setting))

-- the call that distributes the clock has no error but the lock's
abbrev pub Distributes : McuTable → McuState → Origin Call → FrameHistory → Type 0
Distributes d s o t = IsThisFrame (Called distribute) fresh_history o t × ((unlocked : Bool) → error_by d distribute (not s.initialised) unlocked ≡ locks unlocked)

-- a PLL that was found locked stays so in the window
abbrev pub clock_holds : McuTable → World → McuState → ClockBody → Origin Call → FrameHistory → Type 0
clock_holds d w s (Start m) o t = (setting : ℕ) × IsThisFrame (Called (calls.Clock (InitClock setting))) fresh_history o t × IsStarting d s m setting
clock_holds d w s (Look u) o t = Distributes d s o t × (u ≡ unlocked_owed d)
clock_holds d w s Take o t = Distributes d s o t × (is_locked w s.pll ≡ true)

abbrev pub clock_bodies : (d : McuTable) → LongBodies (mcu_basis d) ClockBody
clock_bodies d = plain d clock_work clock_takes clock_left clock_clean (clock_holds d)

-- ---- what the writes make of the clock

started_with : (c : block.Clock) (m : ℕ) → 0 < m → block.started c m ≡ record c { pll = Some (record { multiplier = m; started = c.osc }); rate = 1 }
started_with c m lt = ap (λ q. if q then c else record c { pll = Some (record { multiplier = m; started = c.osc }); rate = 1 }) (isnt_zero m lt)

taken_clock : (w : World) (s : McuState) (p : Option Pll) → s.pll ≡ p → block.after_write (clock_of w s) ClockRate 1 ≡ clock_of w (distributed p s)
taken_clock w s None e = ap (λ q. record (clock_of w s) { rate = block.multiplied (pll_of q) s.rate }) e
taken_clock w s (Some p) e = ap (λ q. record (clock_of w s) { rate = block.multiplied (pll_of q) s.rate }) e

taken_rate : (s : McuState) (p : Option Pll) → s.rate ≤ 16 → IsSlowPll p → (distributed p s).rate ≤ 16
taken_rate s None r h = r
taken_rate s (Some p) r h = h

still_locked : (w w1 : World) (p : Option Pll) → w.osc ≤ w1.osc → is_locked w p ≡ true → is_locked w1 p ≡ true
still_locked w w1 None le e = absurd (cc)
still_locked w w1 (Some p) le e = later (p.started + 100) w.osc w1.osc le e
  where
    later : (n a b : ℕ) → a ≤ b → nat_le n a ≡ true → nat_le n b ≡ true
    later n a b le e = grind (arith, nat_tests)

module _ (d : McuTable) where
  started : (held : Reservations) (chip : Chip) (w : World) (s : McuState) (m y : ℕ) → 0 < m → m ≤ 16 → McuRepresents d held chip w s → McuRepresents d held (chip_after chip (Write ClockPll m) y) w (clocked w (Some m) s)
  started held chip w s m y lt le h = record {
    right = h.right;
    all = all_moved chip (Write ClockPll m) y h.all;
    clock = ap (λ c. block.started c m) h.clock ∙ started_with (clock_of w s) m lt;
    rate = omega arith;
    pll = le;
    state = h.state;
    mode = h.mode;
    ram = h.ram;
  }

  distributes : (held : Reservations) (chip : Chip) (w : World) (s : McuState) (y : ℕ) (p : Option Pll) → s.pll ≡ p → McuRepresents d held chip w s → McuRepresents d held (chip_after chip (Write ClockRate 1) y) w (distributed p s)
  distributes held chip w s y p e h = by p e (ap (λ c. block.after_write c ClockRate 1) h.clock ∙ taken_clock w s p e) (taken_rate s p h.rate (subst (λ q. IsSlowPll q) e h.pll))
    where
      by : (p : Option Pll) → s.pll ≡ p → (chip_after chip (Write ClockRate 1) y).clock ≡ clock_of w (distributed p s) → (distributed p s).rate ≤ 16 → McuRepresents d held (chip_after chip (Write ClockRate 1) y) w (distributed p s)
      by None e c r = record { right = h.right; all = all_moved chip (Write ClockRate 1) y h.all; clock = c; rate = r; pll = h.pll; state = h.state; mode = h.mode; ram = h.ram }
      by (Some p) e c r = record { right = h.right; all = all_moved chip (Write ClockRate 1) y h.all; clock = c; rate = r; pll = h.pll; state = h.state; mode = h.mode; ram = h.ram }

  -- the PLL isn't locked, which is an error, or it is
  looked_on : (below : Reservations) (chip : Chip) (w : World) (s : McuState) (y : ℕ) (m : ℕ → Bool) (locked : Bool) → is_locked w s.pll ≡ locked → McuRepresents d below chip w s → ((unlocked : Bool) → error_by d distribute (not s.initialised) unlocked ≡ locks unlocked) → WorksTo d (clock_bodies d) below chip w s (Look (unlocked_owed d)) (Called distribute) (bit_of locked) y fresh_history m (look_takes (unlocked_owed d) (bit_of locked == 0))
  looked_on below chip w s y m true e h pass = (h, ((Is_this_frame, pass), e))
  looked_on below chip w s y m false e h pass = let tells = error_told (mcu_machine d) distribute (named ENotOk) McuPllNotLocked in record {
    may = refl;
    stands = tt;
    state = s;
    told = tells_error (named ENotOk) McuPllNotLocked;
    begins = None;
    is = ap (λ q. Some (acts_by d w s distribute (error_by d distribute (not s.initialised) (not q)))) e ∙ ap (λ q. Some (acts_by d w s distribute q)) (pass true);
    sends = tt;
    acts = (refl, refl);
    reset = refl;
    next = (h, record { may = (refl, refl); served = false; owed = ap (λ ns. owing false ns) tells.1; shown = λ e. absurd (cc); report = tells.2 });
  }

  steps : (below : Reservations) (chip : Chip) (w : World) (s : McuState) (k : ClockBody) (o : Origin Call) (y : ℕ) (t : FrameHistory) (n : ℕ → Bool) → McuRepresents d below chip w s → clock_holds d w s k o t → WorksTo d (clock_bodies d) below chip w s k o (value_of chip (clock_work k)) y t n (clock_takes k (value_of chip (clock_work k)))
  steps below chip w s (Start m) o y t n h (c, Is_this_frame, i) = acted d (clock_bodies d) below chip _ w s (clocked w (Some m) s) (calls.Clock (InitClock c)) (Write ClockPll m) false 0 y n (Start m) (named EOk) i.pass (ap (λ q. outcome (clocked w q s) (answers (named EOk))) i.known) tt refl (started below chip w s m y i.positive i.slow h)
  steps below chip w s (Look u) o y t n h ((Is_this_frame, pass), e) = subst (λ q. WorksTo d (clock_bodies d) below chip w s (Look q) (Called distribute) (value_of chip (Read ClockLock)) y fresh_history n (clock_takes (Look q) (value_of chip (Read ClockLock)))) (sym e) (subst (λ x. WorksTo d (clock_bodies d) below chip w s (Look (unlocked_owed d)) (Called distribute) x y fresh_history n (clock_takes (Look (unlocked_owed d)) x)) (sym (lock_here d below chip w s h)) (looked_on below chip w s y n (is_locked w s.pll) refl h pass))
  steps below chip w s Take o y t n h ((Is_this_frame, pass), e) = record {
    may = refl;
    stands = tt;
    state = distributed s.pll s;
    told = answers (named EOk);
    begins = None;
    is = ap (λ q. Some (acts_by d w s distribute (error_by d distribute (not s.initialised) (not q)))) e ∙ ap (λ q. Some (acts_by d w s distribute q)) (pass false);
    sends = tt;
    acts = tt;
    reset = refl;
    next = (distributes below chip w s y s.pll refl h, record { may = (refl, refl); served = false; owed = refl; shown = λ e. absurd (cc); report = refl });
  }

  own : (k : ClockBody) → may (clock_work k) ≡ true
  own (Start m) = refl
  own (Look u) = refl
  own Take = refl

  later : (w w1 : World) (s : McuState) (k : ClockBody) (o : Origin Call) (t : FrameHistory) → w.osc ≤ w1.osc → clock_holds d w s k o t → clock_holds d w1 s k o t
  later w w1 s (Start m) o t le h = h
  later w w1 s (Look u) o t le h = h
  later w w1 s Take o t le h = (h.0, still_locked w w1 s.pll le h.1)

  calm : (k : ClockBody) → (resets_chip (clock_work k) ≡ false) × (begins_word (clock_work k) ≡ false)
  calm (Start m) = (refl, refl)
  calm (Look u) = (refl, refl)
  calm Take = (refl, refl)

  shortens : (k : ClockBody) (x : ℕ) → Shortens clock_left k (clock_takes k x)
  shortens (Start m) x = omega arith
  shortens (Look u) x = by (x == 0)
    where
      by : (q : Bool) → Shortens clock_left (Look u) (look_takes u q)
      by true = omega arith
      by false = omega arith
  shortens Take x = omega arith

  cleans : (k : ClockBody) (x : ℕ) → Cleans clock_clean (clock_work k) k (clock_takes k x)
  cleans (Start m) x = tt
  cleans (Look u) x = by (x == 0)
    where
      by : (q : Bool) → Cleans clock_clean (Read ClockLock) (Look u) (look_takes u q)
      by true = tt
      by false = λ e. absurd (cc)
  cleans Take x = tt

  pub clock_right : AreLong (mcu_basis d) (clock_bodies d)
  clock_right = plain_right d clock_work clock_takes clock_left clock_clean (clock_holds d) (record {
    own = λ w s k o t h. own k;
    steps = steps;
    later = later;
    calm = λ k x e. calm k;
    shortens = shortens;
    cleans = cleans;
  })
