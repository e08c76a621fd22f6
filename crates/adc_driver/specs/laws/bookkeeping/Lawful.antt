-- What the driver stands on is a basis, and its bodies are right where they are at the places that owe moves and at the others.
-- From adc_groups: services.LookSteps, adc_groups: bookkeeping.PendingWritesRight and 7 more.
-- Used by bookkeeping.Joined, bookkeeping.KeepsToModule, bookkeeping.NoneWaitsPlaces, services.BeginSteps.
use Rattle.std.proofs.Common.{◌≡◌, ◌+◌, ◌-◌, ◌≤◌, ◌&&◌}
use Rattle.adc_driver.specs.Terms
use Terms.{adc_basis_right, adc_bodies, adc_looked, adc_setting, adc_windows, AdcBody, AdcGround, AdcRepresents}
use Terms.{AdcState, AdcTable, alike_chips, and_first, any_ends, AnyBody, ap, AreEnding, AreEndingServices, AreFree}
use Terms.{AreLong, AreWindows, arith, Asked, bare, Beside, body_ends, Bool, both, both_ending, Call, Called}
use Terms.{CanBegin, CaptureCountHigh, CaptureTimeHigh, Chip, Decides, ending_gave, Entered, false, first_words}
use Terms.{FitsAdc, free_windows, Group, group_of, GroupCall, handled_by, InitBody, is_some, is_used, is_windowed}
use Terms.{IsBasis, IsLawful, Load, LongBodies, MakesStarts, making_owed, may_name, Move, names_there, no_duties}
use Terms.{None, Option, owed_right, owes_at, Plain, PulseCommit, PulseIdle, Read, refl, Reservations, Services}
use Terms.{services_driver, services_lawful, Setup, short_left, short_move, Some, StartGroupConversion, STATE}
use Terms.{steps_of, Sweep, TimerHigh, true, windows_right, word_of, World, Write, ℕ}
use Rattle.mcal_base.specs.declared.register.Reg.TheVariants.{SerialWait}
use Rattle.adc_machine.specs.Bounds as bounds

module _ (d : AdcTable) (fits : FitsAdc d) where
  pub ground_right : IsBasis (AdcGround d)
  ground_right = adc_basis_right d fits

  pub bodies_right : (f r : AdcBody → ℕ) → AreWindows (adc_windows d f r) body_ends → AreFree (AdcGround d) (adc_bodies d f r) (λ k. owes_at k.table k.place) body_ends → AreEnding (AdcGround d) (adc_bodies d f r) body_ends
  bodies_right f r wins free = windows_right (bare d) (making_owed d) (alike_chips d) (owed_right d fits) (adc_windows d f r) body_ends wins free

-- ---- The driver, as the outline and the runner see it. It is lawful where its bodies are right, and where calls and handlers begin.

abbrev pub InitSweep : Type 0
InitSweep = Sweep Setup InitBody

module _ (d : AdcTable) (fuel room : AdcBody → ℕ) (inits : LongBodies (AdcGround d) InitSweep) where
  abbrev pub any_bodies : LongBodies (AdcGround d) AnyBody
  any_bodies = both inits (adc_bodies d fuel room)

  -- the driver; any call may be made
  abbrev pub adc : Services AdcState Call Asked AnyBody
  adc = record {
    basis = AdcGround d;
    bodies = any_bodies;
    seen = λ k. Plain;
    written = λ k call writes. Unit {0};
    fits = FitsAdc d;
    can = λ call. Unit {0};
    word = STATE;
    asked = λ call. record { call = call; table = d };
    looked = adc_looked;
    most = λ q. steps_of d (Called q.call) - 7;
    wide = λ q. 29;
    body_of = λ line. handled_by d line (is_used d line);
  }

  -- what is left to show of its bodies, of how calls and handlers begin, and of the units that they leave
  pub record AreRight : Type 0 where
    pub sweeps : AreLong (AdcGround d) inits
    pub windows : AreWindows (adc_windows d fuel room) body_ends
    pub free : AreFree (AdcGround d) (adc_bodies d fuel room) (λ k. owes_at k.table k.place) body_ends
    pub looks : (below : Reservations) (chip : Chip) (w : World) (s : AdcState) (call : Call) → Beside (adc_setting d) (Called call) below → AdcRepresents d below None chip w s
        → Decides adc below chip w s call (adc_looked (record { call = call; table = d }) (word_of chip STATE))
    pub enters : (line : ℕ) (k : AnyBody) → handled_by d line (is_used d line) ≡ Some k → CanBegin adc k (Entered line)
    pub line_steps : (line : ℕ) (k : AnyBody) → handled_by d line (is_used d line) ≡ Some k → 6 + any_bodies.fuel k ≤ steps_of d (Entered line)
    pub starts : MakesStarts adc any_ends

  module _ (fits : FitsAdc d) (a : AreRight) where
    all_right : AreEnding (AdcGround d) any_bodies any_ends
    all_right = both_ending (AdcGround d) inits (adc_bodies d fuel room) any_ends a.sweeps (bodies_right d fits fuel room a.windows a.free)

    -- it reads no high half, and sets no output
    no_windows : (made : Move) → may_name d made ≡ true → is_windowed made ≡ false
    no_windows (Read (TimerHigh c)) e = absurd (cc)
    no_windows (Read (CaptureCountHigh c)) e = absurd (cc)
    no_windows (Read (CaptureTimeHigh c)) e = absurd (cc)
    no_windows (Read (SerialWait u)) e = absurd (cc)
    no_windows (Write (PulseCommit c) v) e = absurd (cc)
    no_windows (Write (PulseIdle c) v) e = absurd (cc)
    no_windows _ e = refl

    handled : (line : ℕ) (q : Bool) → is_some (handled_by d line q) ≡ q
    handled line true = refl
    handled line false = refl

    group_steps : (c : GroupCall) (k : Option Group) → 7 ≤ bounds.group_steps d c k
    group_steps StartGroupConversion None = omega arith
    group_steps _ _ = omega arith

    call_steps : (call : Call) → 7 + (steps_of d (Called call) - 7) ≤ steps_of d (Called call)
    call_steps (Call.Group g c) = let most = group_steps c (group_of d g) in omega (arith, most)
    call_steps _ = omega arith

    pub adc_right : AreEndingServices adc any_ends
    adc_right = record {
      basis = ground_right d fits;
      bodies = all_right;
      windows = free_windows adc all_right (λ k. refl) (λ o made m. no_windows made (and_first (may_name d made) (names_there made) m));
      unseen = λ below chip w s k call at. tt;
      writes = no_duties adc (λ k call writes. tt) (λ call. refl);
      starts = a.starts;
      looks = λ below chip w s call can lets h. a.looks below chip w s call lets h;
      own_word = λ o. ap (λ q. q && names_there (Load STATE)) (first_words d 0 (omega arith));
      word_there = omega arith;
      handled = λ line. handled line (is_used d line);
      enters = a.enters;
      call_steps = λ call can. call_steps call;
      call_window = λ call can. omega arith;
      line_steps = a.line_steps;
    }

    -- whatever runs above them, the frames of the driver are right at each step
    pub lawful : IsLawful (services_driver adc) (short_move STATE any_bodies.work_of) (short_left adc_looked any_bodies.takes) (ending_gave adc_looked any_bodies.takes any_ends)
    lawful = services_lawful adc adc_right
