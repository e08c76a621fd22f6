-- What stands in the driver words of the module and in the register, and numbers of 16 bits.
use Rattle.std.specs.Prelude.{ℕ, ◌*◌, ◌==◌, max, if◌then◌else◌, Option, Some, None}
use Rattle.mcal_base.specs.declared.config.wdg.WdgMode.{WdgMode}
use Rattle.mcal_base.specs.declared.config.wdg.WdgMode.TheVariants.{Off, Slow, Fast}
use Rattle.module_machines.specs.declared.wdg.table.Timing.{Timing}

-- the word of an initialised module's mode, and of the state, uninitialised or not
abbrev pub mode_word : WdgMode → ℕ
mode_word Off = 1
mode_word Slow = 2
mode_word Fast = 3

abbrev pub state_word : Option WdgMode → ℕ
state_word None = 0
state_word (Some m) = mode_word m

-- the mode in the word of an initialised module
abbrev pub mode_in : ℕ → WdgMode
mode_in n = if n == 2 then Slow else (if n == 3 then Fast else Off)

-- what is written to the register: the ticks of the oscillator, at least one, and 0 in the off mode
abbrev pub load_by : WdgMode → ℕ → ℕ
load_by Off timeout = 0
load_by Slow timeout = max 1 (timeout * 16)
load_by Fast timeout = max 1 timeout

abbrev pub load_of : Timing → ℕ
load_of t = load_by t.mode t.timeout
