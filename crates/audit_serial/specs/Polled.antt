-- The lines that calls may poll.
use Rattle.std.specs.Prelude.{ℕ, ◌+◌, ◌^◌}
use Rattle.spi_machine.specs.declared.call.Call.{Call}
use Rattle.spi_machine.specs.declared.call.Call.TheVariants.{MainFunctionHandling}

-- as a mask: the main function those of both units, and no other call any
abbrev pub polled_lines : Call → ℕ
polled_lines MainFunctionHandling = 2 ^ 26 + 2 ^ 27
polled_lines _ = 0
