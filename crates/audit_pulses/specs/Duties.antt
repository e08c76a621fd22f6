-- What a call about all channels writes to the output of each.
use Rattle.std.specs.Prelude.{ℕ, Bool}
use Rattle.mcal_base.specs.declared.moves.Move.{Move}
use Rattle.module_machines.specs.pwm.Bounds.{commits_at, idles_at}
use Rattle.audit_pulses.specs.declared.duties.Duty.{Duty}
use Rattle.audit_pulses.specs.declared.duties.Duty.TheVariants.{Commit, Idle}

-- what is written to the output of a channel
abbrev pub kind_of : Duty → (channel : ℕ) → Move → Bool
kind_of Commit c made = commits_at c made
kind_of Idle c made = idles_at c made
