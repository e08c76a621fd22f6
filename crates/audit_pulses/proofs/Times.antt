-- What a call of the pulse outputs does rests on the times of the eight channels alone.
use Rattle.std.proofs.Common.{◌≡◌, ℕ, ◌<◌, ap, arith, refl, Option, Some, None}
use Rattle.mcal_base.specs.declared.error_name.ErrorName.{ErrorName}
use Rattle.run_model.specs.World.{World}
use Rattle.run_model.specs.Machine.{Acts, outcome, tells_nothing}
use Rattle.module_machines.specs.pwm.Machine.{Pulse, PwmState, acts, acts_by, happens, pulse_at, started, table, work}
use Rattle.module_machines.specs.pwm.Checks.{error_by}
use Rattle.std.specs.Prelude.{true, not}
use Rattle.module_machines.specs.pwm.Table.{channel_of}
use Rattle.module_machines.specs.declared.pwm.call.Call.{Call}
use Rattle.module_machines.specs.declared.pwm.call.Call.TheVariants.{Init, DeInit, GetOutputState, Channel}
use Rattle.module_machines.specs.declared.pwm.table.PwmTable.{PwmTable}

abbrev AreSame : (ℕ → ℕ) → (ℕ → ℕ) → Type 0
AreSame f g = (c : ℕ) → c < 8 → f c ≡ g c

table_same : (f g : ℕ → Pulse) → ((c : ℕ) → c < 8 → f c ≡ g c) → table f ≡ table g
table_same f g h = rw (h 0 (omega arith), h 1 (omega arith), h 2 (omega arith), h 3 (omega arith), h 4 (omega arith), h 5 (omega arith), h 6 (omega arith), h 7 (omega arith)) refl

work_same : (d : PwmTable) (w : World) (s : PwmState) (call : Call) (f g : ℕ → ℕ) → AreSame f g → work d w s call f ≡ work d w s call g
work_same d w s Init f g h = ap (λ ps. outcome (record { initialised = true; channels = ps }) tells_nothing)
    (table_same (λ c. started (channel_of d c) (f c) (pulse_at s c)) (λ c. started (channel_of d c) (g c) (pulse_at s c)) (λ c lt. ap (λ t. started (channel_of d c) t (pulse_at s c)) (h c lt)))
work_same d w s DeInit f g h = refl
work_same d w s (GetOutputState c) f g h = refl
work_same d w s (Channel c call) f g h = refl

by_error : (d : PwmTable) (w : World) (s : PwmState) (call : Call) (f g : ℕ → ℕ) (e : Option ErrorName) → AreSame f g → acts_by d w s call f e ≡ acts_by d w s call g e
by_error d w s call f g None h = work_same d w s call f g h
by_error d w s call f g (Some e) h = refl

pub acts_same : (d : PwmTable) (w : World) (s : PwmState) (call : Call) (f g : ℕ → ℕ) → AreSame f g → happens d w s (Acts call f) ≡ happens d w s (Acts call g)
acts_same d w s call f g h = ap (λ o. Some o) (by_error d w s call f g (error_by d call (not s.initialised)) h)
