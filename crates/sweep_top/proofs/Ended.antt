-- The endings of refusals and limits.
use Rattle.std.proofs.Common.{◌≡◌, ◌≢◌, [], false, refl}
use Rattle.bench_script.specs.declared.fault.ScriptFault.TheVariants as script_faults
use Rattle.bench_top.specs.Judged.{Ending}
use Rattle.bench_top.specs.declared.refusal.Refusal.{Refusal}
use Rattle.bench_top.specs.declared.refusal.Refusal.TheVariants as refusals
use Rattle.sweep_trials.specs.declared.stop.Stop.{Stop}
use Rattle.sweep_trials.specs.declared.stop.Stop.TheVariants as stops
use Rattle.sweep_top.specs.Endings.{ended, stopped}
use Rattle.sweep_top.specs.Sweeps.{is_memory}
use Rattle.sweep_top.specs.declared.ends.SweepEnd.{SweepEnd}
use Rattle.sweep_top.specs.declared.ends.SweepEnd.TheVariants as ends

-- an ending is no fault of the source or the sink, and prints nothing where memory was wanting
pub record EndsWell (end : SweepEnd) (e : Ending) : Type 0 where
  pub three : e.status ≢ 3
  pub four : e.status ≡ 4 → e.text ≡ []
  pub two : e.status ≢ 2
  pub fails : e.status ≢ 4 → is_memory end ≡ false

of_refusal : (r : Refusal) → EndsWell (ends.Refused r) (ended (ends.Refused r))
of_refusal refusals.NoSeparator = record { three = λ e. cc; four = λ e. cc; two = λ e. cc; fails = λ b. refl }
of_refusal (refusals.Configuration fault) = record { three = λ e. cc; four = λ e. cc; two = λ e. cc; fails = λ b. refl }
of_refusal (refusals.Script (script_faults.Long line)) = record { three = λ e. cc; four = λ e. cc; two = λ e. cc; fails = λ b. refl }
of_refusal (refusals.Script (script_faults.NotText line)) = record { three = λ e. cc; four = λ e. cc; two = λ e. cc; fails = λ b. refl }
of_refusal (refusals.Script (script_faults.Word line)) = record { three = λ e. cc; four = λ e. cc; two = λ e. cc; fails = λ b. refl }
of_refusal (refusals.Script (script_faults.Count line)) = record { three = λ e. cc; four = λ e. cc; two = λ e. cc; fails = λ b. refl }
of_refusal (refusals.Script (script_faults.Number line)) = record { three = λ e. cc; four = λ e. cc; two = λ e. cc; fails = λ b. refl }
of_refusal (refusals.Script script_faults.NoMemory) = record { three = λ e. cc; four = λ e. cc; two = λ e. cc; fails = λ b. refl }

of_stop : (stop : Stop) → EndsWell (ends.Stopped stop) (stopped stop)
of_stop stops.TooManyDirectives = record { three = λ e. cc; four = λ e. cc; two = λ e. cc; fails = λ b. refl }
of_stop stops.TooManySteps = record { three = λ e. cc; four = λ e. cc; two = λ e. cc; fails = λ b. refl }
of_stop stops.TooManyInAll = record { three = λ e. cc; four = λ e. cc; two = λ e. cc; fails = λ b. refl }
of_stop stops.TooManyNotices = record { three = λ e. cc; four = λ e. cc; two = λ e. cc; fails = λ b. refl }
of_stop stops.TooLongReport = record { three = λ e. cc; four = λ e. cc; two = λ e. cc; fails = λ b. refl }
of_stop (stops.NoPlace places) = record { three = λ e. cc; four = λ e. cc; two = λ e. cc; fails = λ b. refl }
of_stop stops.NoMemory = record { three = λ e. cc; four = λ e. refl; two = λ e. cc; fails = λ b. absurd (b refl) }

pub ends_well : (end : SweepEnd) → EndsWell end (ended end)
ends_well ends.Usage = record { three = λ e. cc; four = λ e. cc; two = λ e. cc; fails = λ b. refl }
ends_well ends.TooManyBytes = record { three = λ e. cc; four = λ e. cc; two = λ e. cc; fails = λ b. refl }
ends_well (ends.Refused refusal) = of_refusal refusal
ends_well (ends.Fault fault) = record { three = λ e. cc; four = λ e. cc; two = λ e. cc; fails = λ b. refl }
ends_well (ends.Stopped stop) = of_stop stop
ends_well ends.NoMemory = record { three = λ e. cc; four = λ e. refl; two = λ e. cc; fails = λ b. absurd (b refl) }
