-- What frames are judged by: starts for no call, lines that are polled, and waits.
use Rattle.std.proofs.Common.{◌≡◌, ℕ, ◌+◌, ◌^◌, ◌==◌, Bool, true, false, not, ◌&&◌, ◌||◌, [], ◌∷◌, Option, Some, None, refl, subst}
use Rattle.std.specs.Prelude.{is_some, if◌then◌else◌}
use Rattle.mcal_base.specs.Bits.{has_bit}
use Rattle.mcal_base.specs.declared.moves.Move.{Move}
use Rattle.mcal_base.specs.declared.moves.Move.TheVariants.{Read}
use Rattle.mcal_base.specs.declared.register.Reg.TheVariants.{SerialWait}
use Rattle.mcal_base.specs.facts.Numbers.{eq_is}
use Rattle.mcal_base.specs.facts.Truths.{off_on}
use Rattle.run_model.specs.Frame.{Entered}
use Rattle.run_model.specs.Legal.{has_line}
use Rattle.run_model.specs.World.{World}
use Rattle.spi_machine.specs.Bounds.{may_wait}
use Rattle.spi_machine.specs.Machine.{is_sync_number, next_at, polls, sent_at, start_by, start_of}
use Rattle.spi_machine.specs.Pending.{Pending}
use Rattle.spi_machine.specs.State.{SpiState, is_polling}
use Rattle.spi_machine.specs.Table.{is_sync_unit}
use Rattle.spi_machine.specs.declared.call.Call.{Call}
use Rattle.spi_machine.specs.declared.call.Call.TheVariants.{Channel, DeInit, Get, Init, MainFunctionHandling, Sequence, SetAsyncMode}
use Rattle.spi_machine.specs.declared.table.SpiTable.{SpiTable}
use Rattle.audit_serial.specs.Polled.{polled_lines}

-- a unit starts for no call where it doesn't send for calls alone and has a next job
pub starts_as : (d : SpiTable) (w : World) (s : SpiState) (k : Option ℕ) (received : ℕ) → (not (is_sync_number d k) && is_some (next_at d s k)) ≡ is_some (start_of d w s k None received)
starts_as d w s None received = refl
starts_as d w s (Some u) received = by (is_sync_unit d u) (next_at d s (Some u))
  where
    by : (b : Bool) (p : Option Pending) → (not b && is_some p) ≡ is_some (if b then sent_at d w s (Some u) received None else start_by d w s (Some u) received p)
    by true p = refl
    by false None = refl
    by false (Some p) = refl

two_lines : (l : ℕ) (a b : Bool) → 26 == l ≡ a → 27 == l ≡ b → (a || (b || false)) ≡ true → has_bit (2 ^ 26 + 2 ^ 27) l ≡ true
two_lines l true b p q e = subst (λ n. has_bit (2 ^ 26 + 2 ^ 27) n ≡ true) (eq_is 26 l p) refl
two_lines l false true p q e = subst (λ n. has_bit (2 ^ 26 + 2 ^ 27) n ≡ true) (eq_is 27 l q) refl
two_lines l false false p q e = absurd (cc)

lines_if : (b : Bool) (l : ℕ) → has_line (if b then 26 ∷ 27 ∷ [] else []) l ≡ true → has_bit (2 ^ 26 + 2 ^ 27) l ≡ true
lines_if true l e = two_lines l (26 == l) (27 == l) refl refl e
lines_if false l e = absurd (cc)

-- a line that a call polls is one that it may poll
pub may_poll : (s : SpiState) (call : Call) (l : ℕ) → has_line (polls s call) l ≡ true → has_bit (polled_lines call) l ≡ true
may_poll s MainFunctionHandling l e = lines_if (is_polling s.mode) l e
may_poll s Init l e = off_on e
may_poll s DeInit l e = off_on e
may_poll s (SetAsyncMode mode) l e = off_on e
may_poll s (Channel c call) l e = off_on e
may_poll s (Sequence q call) l e = off_on e
may_poll s (Get query) l e = off_on e

-- no handler waits
pub never_waits : (d : SpiTable) (made : Move) (l : ℕ) → may_wait d made (Entered l) ≡ false
never_waits d (Read (SerialWait u)) l = refl
never_waits d (Read r) l = refl
never_waits d made l = refl
