-- How what the program keeps stands for the machine's state.
use Rattle.std.specs.Prelude.{◌+◌, ◌<◌, ◌≤◌, ℕ, List, [], Bool, map, slice_index_or, if◌then◌else◌}
use Rattle.chip_blocks.specs.declared.pulses.regime.Commit.{Commit}
use Rattle.module_machines.specs.pwm.Machine as machine
use Rattle.module_machines.specs.pwm.Output as outputs
use Rattle.module_machines.specs.pwm.Units.{IsBegun}
use Rattle.module_machines.specs.declared.pwm.table.PwmTable.{PwmTable}
use Rattle.audit_pulses.specs.declared.output.Output.{Output}
use Rattle.audit_pulses.specs.declared.output.Output.TheVariants.{Idle, Runs, GivesWay}
use Rattle.audit_pulses.specs.declared.pulse.Pulse.{Pulse}
use Rattle.audit_pulses.specs.declared.regime.Next.{Next}
use Rattle.audit_pulses.specs.declared.regime.Regime.{Regime}

-- The machine of the pulse outputs under a configuration, and the latest time that it was told.
pub record Kept : Type 0 where
  pub driver : PwmTable
  pub latest : ℕ
  pub state : machine.PwmState

-- a regime, and the one that waits for the end of its period
abbrev pub regime_of : Regime → outputs.Regime
regime_of r = record { start = r.start; period = r.period; duty = r.duty }

abbrev pub next_of : Regime → Next → outputs.Regime
next_of r n = record { start = n.begun + r.period; period = n.period; duty = n.duty }

-- the same one as the block of the chip has it, with a polarity
abbrev pub commit_of : (high : Bool) → Next → Commit
commit_of high n = record { begun = n.begun; wave = record { period = n.period; duty = n.duty; high = high } }

-- what an output does, and a channel
abbrev pub output_of : Output → outputs.Output
output_of (Idle high) = outputs.Idle high
output_of (Runs r) = outputs.Runs (regime_of r)
output_of (GivesWay r n) = outputs.GivesWay (regime_of r) (next_of r n)

abbrev pub pulse_of : Pulse → machine.Pulse
pulse_of p = record { output = output_of p.output; since = p.since; turned = p.turned; period = p.period; notified = p.notified }

-- its output began before it counts, and that not after a time
abbrev pub PulseFits : (latest : ℕ) → Pulse → Type 0
PulseFits latest p = IsBegun (output_of p.output) p.since × (p.since ≤ latest)

-- all eight, once one was touched
abbrev pub channels_of : (touched : Bool) → List Pulse → List machine.Pulse
channels_of touched xs = if touched then map pulse_of xs else []

-- times by channel, and that none is after now
abbrev pub times_of : List ℕ → ℕ → ℕ
times_of times c = slice_index_or times c 0

abbrev pub ArePast : List ℕ → (now : ℕ) → Type 0
ArePast times now = (c : ℕ) → c < 8 → times_of times c ≤ now
