-- Mcu_GetPllStatus and Mcu_GetResetReason: their step, and that it is right.
-- From Base, service_outline: Acts, Look.
-- Used by service/query/rt, Lawful, Clock.
use Rattle.std.proofs.Common.{◌≡◌, ◌+◌, ◌-◌, ◌==◌, ◌∙◌, if◌then◌else◌}
use Rattle.mcu_driver.specs.Terms
use Terms.{Act, AnswerName, answers, ap, AreLong, arith, begins_word, bit_of, BodyTaken, Bool, Call, Called, Chip}
use Terms.{ClockLock, ends, false, FrameHistory, fresh_history, GetPllStatus, GetResetReason, is_locked, is_locked_at, Is_this_frame, IsThisFrame, locked_in, LongBodies, may, mcu_basis, McuTable, McuPllLocked, McuPllUnlocked, McuPowerOnReset, McuRepresents, McuState, McuSwReset, McuWatchdogReset, Move, named, nat_le, nat_tests, never_clean, None, Nothing, number_of, Option, Origin, outcome, Pll, pll_of, PowerOn, QueryBody, Read, Reason, reason_name, refl, register_of, Reservations, ResetReason, resets_chip, Shortens, Software, Some, Status, status_name, sym, true, value_of, Watchdog, World, ℕ}
use Rattle.mcu_driver.specs.laws.{Base.{plain, WorksTo, plain_right, acted}, Look.{MayAct}}
use Rattle.mcal_base.specs.declared.directive.Reason as resets

abbrev pub query_work : QueryBody → Move
query_work Status = Read ClockLock
query_work Reason = Read ResetReason

-- what the registers say
abbrev pub status : ℕ → AnswerName
status x = if x == 0 then McuPllUnlocked else McuPllLocked

abbrev pub reason : ℕ → AnswerName
reason x = if x == 0 then McuPowerOnReset else (if x == 1 then McuWatchdogReset else McuSwReset)

abbrev pub query_takes : QueryBody → ℕ → QueryBody × BodyTaken
query_takes Status x = (Status, ends (Some Act) (named (status x)) Nothing)
query_takes Reason x = (Reason, ends (Some Act) (named (reason x)) Nothing)

abbrev pub query_call : QueryBody → Call
query_call Status = GetPllStatus
query_call Reason = GetResetReason

abbrev pub query_holds : McuTable → World → McuState → QueryBody → Origin Call → FrameHistory → Type 0
query_holds d w s k o t = IsThisFrame (Called (query_call k)) fresh_history o t × MayAct d s (query_call k)

abbrev pub query_bodies : (d : McuTable) → LongBodies (mcu_basis d) QueryBody
query_bodies d = plain d query_work query_takes (λ k. 1) (λ k. false) (query_holds d)

-- ---- the registers give what the machine says

hundred_since : (start t : ℕ) → nat_le 100 (t - start) ≡ nat_le (start + 100) t
hundred_since start t = grind (arith, nat_tests)

locked_by : (w : World) (p : Option Pll) → is_locked_at (pll_of p) w.osc ≡ is_locked w p
locked_by w None = refl
locked_by w (Some p) = hundred_since p.started w.osc

pub lock_here : (d : McuTable) (held : Reservations) (chip : Chip) (w : World) (s : McuState) → McuRepresents d held chip w s → register_of chip ClockLock ≡ bit_of (is_locked w s.pll)
lock_here d held chip w s h = ap (λ c. bit_of (locked_in c)) h.clock ∙ ap bit_of (locked_by w s.pll)

status_of : (b : Bool) → status (bit_of b) ≡ status_name b
status_of true = refl
status_of false = refl

reason_of : (r : resets.Reason) → reason (number_of r) ≡ reason_name r
reason_of PowerOn = refl
reason_of Watchdog = refl
reason_of Software = refl

module _ (d : McuTable) where
  steps : (below : Reservations) (chip : Chip) (w : World) (s : McuState) (k : QueryBody) (o : Origin Call) (y : ℕ) (t : FrameHistory) (m : ℕ → Bool) → McuRepresents d below chip w s → query_holds d w s k o t → WorksTo d (query_bodies d) below chip w s k o (value_of chip (query_work k)) y t m (query_takes k (value_of chip (query_work k)))
  steps below chip w s Status o y t m h (Is_this_frame, pass) = acted d (query_bodies d) below chip chip w s s GetPllStatus (Read ClockLock) false _ y m Status (named (status (register_of chip ClockLock))) pass (ap (λ n. outcome s (answers (named n))) (sym (ap status (lock_here d below chip w s h) ∙ status_of (is_locked w s.pll)))) tt refl h
  steps below chip w s Reason o y t m h (Is_this_frame, pass) = acted d (query_bodies d) below chip chip w s s GetResetReason (Read ResetReason) false _ y m Reason (named (reason (register_of chip ResetReason))) pass (ap (λ n. outcome s (answers (named n))) (sym (ap (λ c. reason (number_of c.reason)) h.clock ∙ reason_of s.reason))) tt refl h

  own : (k : QueryBody) → may (query_work k) ≡ true
  own Status = refl
  own Reason = refl

  calm : (k : QueryBody) → (resets_chip (query_work k) ≡ false) × (begins_word (query_work k) ≡ false)
  calm Status = (refl, refl)
  calm Reason = (refl, refl)

  shortens : (k : QueryBody) (x : ℕ) → Shortens (query_bodies d).fuel k (query_takes k x)
  shortens Status x = omega arith
  shortens Reason x = omega arith

  pub query_right : AreLong (mcu_basis d) (query_bodies d)
  query_right = plain_right d query_work query_takes (λ k. 1) (λ k. false) (query_holds d) (record {
    own = λ w s k o t h. own k;
    steps = steps;
    later = λ w w1 s k o t le h. h;
    calm = λ k x e. calm k;
    shortens = shortens;
    cleans = λ k x. never_clean (query_work k) k (query_takes k x);
  })
