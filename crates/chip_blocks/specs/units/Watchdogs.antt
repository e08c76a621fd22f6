-- The watchdog: its time, where it runs. It counts the ticks of the oscillator, which the clock block keeps.
use Rattle.std.specs.Prelude.{ℕ, ◌-◌, ◌==◌, if◌then◌else◌, Option, Some, None, option_map}
use Rattle.mcal_base.specs.declared.register.Reg.{Reg}
use Rattle.mcal_base.specs.declared.register.Reg.TheVariants.{WatchdogLoad}
use Rattle.chip_blocks.specs.declared.units.watchdog.Watch.{Watch}
use Rattle.chip_blocks.specs.declared.units.watchdog.WatchdogBlock.{WatchdogBlock}

-- as after a reset: it stands
abbrev pub fresh : WatchdogBlock
fresh = record { watch = None }

-- the ticks of the oscillator that are left until its time ends
abbrev pub left_of : (osc : ℕ) → Watch → ℕ
left_of osc w = w.ticks - (osc - w.started)

-- the same, where it runs
abbrev pub expiry : WatchdogBlock → (osc : ℕ) → Option ℕ
expiry b osc = option_map (left_of osc) b.watch

-- its time begins anew; 0 stops it
abbrev pub loaded : (osc value : ℕ) → Option Watch
loaded osc value = if value == 0 then None else Some (record { started = osc; ticks = value })

-- what a write leaves at this time of the oscillator; a register without a stated write ignores it
abbrev pub after_write : WatchdogBlock → (osc : ℕ) → Reg → ℕ → WatchdogBlock
after_write b osc WatchdogLoad value = record { watch = loaded osc value }
after_write b osc _ value = b
