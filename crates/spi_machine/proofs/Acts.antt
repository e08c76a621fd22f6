-- What the acts of calls leave and tell.
use Rattle.std.proofs.Common.{◌≡◌, ℕ, Bool, true, false, Option, Some, None, is_some, refl}
use Rattle.std.specs.Prelude.{IsSome, find}
use Rattle.mcal_base.specs.declared.error_name.ErrorName.{ErrorName}
use Rattle.run_model.specs.World.{World}
use Rattle.run_model.specs.Machine.{Acts, Outcome, ErrorLeaves}
use Rattle.spi_machine.specs.declared.call.Call.{Call}
use Rattle.spi_machine.specs.declared.call.Call.TheVariants.{Init, DeInit, SetAsyncMode, MainFunctionHandling, Channel, Sequence, Get}
use Rattle.spi_machine.specs.declared.call.ChannelCall.TheVariants.{WriteIb, ReadIb, SetupEb}
use Rattle.spi_machine.specs.declared.call.SequenceCall.TheVariants.{AsyncTransmit, Cancel, SyncTransmit}
use Rattle.spi_machine.specs.declared.table.SpiTable.{SpiTable}
use Rattle.spi_machine.specs.Checks.{error_by}
use Rattle.spi_machine.proofs.Sending.{act-either}
use Rattle.spi_machine.specs.Machine.{spi_machine, acts, acts_by, act_by, sent_by, work, unless_busy, cancelled, cancelled_by, finds_held}
use Rattle.spi_machine.specs.Promised.{is_sending}
use Rattle.spi_machine.specs.State.{SpiState, is_busy, is_running, is_off}
use Rattle.spi_machine.specs.Pending.{Pending, is_of}

-- ---- errors

-- no error is told
abbrev Quiet : Outcome SpiState → Type 0
Quiet out = out.told.error ≡ None

quiet-unless : (b : Bool) (s after : SpiState) → Quiet (unless_busy b s after)
quiet-unless true s after = refl
quiet-unless false s after = refl

quiet-cancelled_by : (d : SpiTable) (s : SpiState) (p : Pending) (b : Bool) → Quiet (cancelled_by d s p b)
quiet-cancelled_by d s p true = refl
quiet-cancelled_by d s p false = refl

quiet-cancelled : (d : SpiTable) (s : SpiState) (o : Option Pending) → Quiet (cancelled d s o)
quiet-cancelled d s None = refl
quiet-cancelled d s (Some p) = quiet-cancelled_by d s p (is_running s p.sequence)

-- a call without an error tells of none
quiet-work : (d : SpiTable) (s : SpiState) (call : Call) → Quiet (work d s call)
quiet-work d s Init = refl
quiet-work d s DeInit = quiet-unless (is_busy s) s _
quiet-work d s (SetAsyncMode m) = quiet-unless (is_busy s) s _
quiet-work d s MainFunctionHandling = refl
quiet-work d s (Channel c (WriteIb p)) = refl
quiet-work d s (Channel c ReadIb) = refl
quiet-work d s (Channel c (SetupEb p q n)) = refl
quiet-work d s (Sequence q AsyncTransmit) = refl
quiet-work d s (Sequence q Cancel) = quiet-cancelled d s (find (is_of q) s.pending)
quiet-work d s (Sequence q SyncTransmit) = refl
quiet-work d s (Get query) = refl

no_error : (e : Option ErrorName) → e ≡ None → IsSome e → ⊥
no_error None h is = cc is
no_error (Some e) h is = cc h

leaves-by : (d : SpiTable) (s : SpiState) (call : Call) (e : Option ErrorName) → ErrorLeaves s (acts_by d s call e)
leaves-by d s call None h = absurd (no_error (work d s call).told.error (quiet-work d s call) h)
leaves-by d s call (Some e) h = (refl, refl)

-- an act with an error leaves the state, and gives no notice
pub error-leaves : (d : SpiTable) (s : SpiState) (call : Call) → ErrorLeaves s (acts d s call)
error-leaves d s call = leaves-by d s call (error_by d call (is_off s.mode) (finds_held d s call))

allowed-by : (d : SpiTable) (w : World) (s : SpiState) (call : Call) (o : Option ℕ) → is_some o ≡ false → IsSome (act_by d w s call o)
allowed-by d w s call None n = refl
allowed-by d w s call (Some q) n = absurd (cc n)

pub act-allowed : (d : SpiTable) (w : World) (s : SpiState) (call : Call) (times : ℕ → ℕ) → is_sending call ≡ false → IsSome ((spi_machine d).happens w s (Acts call times))
act-allowed d w s call times n = allowed-by d w s call (sent_by (Some call)) n

pub act-leaves : (d : SpiTable) (w : World) (s : SpiState) (call : Call) (times : ℕ → ℕ) (out : Outcome SpiState)
    → (spi_machine d).happens w s (Acts call times) ≡ Some out → ErrorLeaves s out
act-leaves d w s call times out h =
    act-either (λ t. ErrorLeaves s t) d w s call out h (error-leaves d s call) (λ q e c f some. (refl, refl)) (λ q x c may some. absurd (no_error None refl some))

-- ---- what a call leaves, seen through a function

pub acts-seen_by : {A : Type 0} (see : SpiState → A) (d : SpiTable) (s : SpiState) (call : Call) (e : Option ErrorName)
    → see (work d s call).state ≡ see s → see (acts_by d s call e).state ≡ see s
acts-seen_by see d s call None h = h
acts-seen_by see d s call (Some e) h = refl
