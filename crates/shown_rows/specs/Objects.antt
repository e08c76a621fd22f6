-- The rows of the objects that are shown in the order of their numbers.
use Rattle.std.specs.Prelude.{ℕ, List}
use Rattle.mcal_base.specs.declared.config.whole.Config.{Config}
use Rattle.run_model.specs.World.{World}
use Rattle.bench_report.specs.Rows.{Row}
use Rattle.mcal_drivers.specs.Setting.{SystemState}
use Rattle.mcal_drivers.specs.Shows.{results_at, serial_channel, size_at}
use Rattle.shown_rows.specs.Shows.{pin_row, pin_rows, stamps_row, stamps_rows, results_row, result_rows, channel_rows, serial_rows}
use Rattle.shown_rows.specs.declared.objects.Objects.{Objects}
use Rattle.shown_rows.specs.declared.objects.Objects.TheVariants.{Pins, Captures, Groups, Serials}

-- how many numbers there are
abbrev pub count : Objects → ℕ
count Pins = 64
count Captures = 8
count Groups = 16
count Serials = 16

-- the rows of the object of a number
abbrev pub object_rows : Config → World → SystemState → Objects → (number : ℕ) → List Row
object_rows c w s Pins n = pin_row c w s n
object_rows c w s Captures n = stamps_row s n (size_at s n)
object_rows c w s Groups n = results_row s n (results_at c s n)
object_rows c w s Serials n = channel_rows s n (serial_channel c n)

-- the rows of all
abbrev pub all_rows : Config → World → SystemState → Objects → List Row
all_rows c w s Pins = pin_rows c w s
all_rows c w s Captures = stamps_rows s
all_rows c w s Groups = result_rows c s
all_rows c w s Serials = serial_rows c s
