-- The statuses of a sweep's refusals and limits, and the lines that are printed.
use Rattle.std.specs.Prelude.{ℕ, ◌++◌, List, [], codes, decimal}
use Rattle.bench_top.specs.Judged.{Ending, ending_of, too_long_report, too_many_bytes}
use Rattle.bench_sweep.specs.Faults.{fault_text}
use Rattle.sweep_trials.specs.declared.stop.Stop.{Stop}
use Rattle.sweep_trials.specs.declared.stop.Stop.TheVariants as stops
use Rattle.sweep_top.specs.declared.ends.SweepEnd.{SweepEnd}
use Rattle.sweep_top.specs.declared.ends.SweepEnd.TheVariants as ends

abbrev pub usage : Ending
usage = record { status = 1; text = codes "usage: mcal_sweep [--first] [--all] [--json] [--part I/N] | mcal_sweep --show PLACE\n" }

-- a limit of so many of something
abbrev pub too_long : List ℕ → Ending
too_long most = record { status = 5; text = codes "too long: more than " ++ (most ++ codes "\n") }

-- a sweep that came to no end
abbrev pub stopped : Stop → Ending
stopped stops.TooManyDirectives = too_long (codes "1100000 directives in a run")
stopped stops.TooManySteps = too_long (codes "1000000 steps in a run")
stopped stops.TooManyInAll = too_long (codes "100000000 steps in all runs")
stopped stops.TooManyNotices = too_long (codes "1000 notices followed in a run")
stopped stops.TooLongReport = too_long_report
stopped (stops.NoPlace places) = record { status = 7; text = codes "no such place: there are " ++ (decimal places ++ codes "\n") }
stopped stops.NoMemory = record { status = 4; text = [] }

-- why no outcomes are told
abbrev pub ended : SweepEnd → Ending
ended ends.Usage = usage
ended ends.TooManyBytes = too_many_bytes
ended (ends.Refused refusal) = ending_of refusal
ended (ends.Fault fault) = record { status = 7; text = fault_text fault }
ended (ends.Stopped stop) = stopped stop
ended ends.NoMemory = record { status = 4; text = [] }
