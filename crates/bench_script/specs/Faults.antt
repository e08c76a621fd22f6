-- The faults of a script.
use Rattle.std.specs.Prelude.{ℕ, List, codes}
use Rattle.bench_script.specs.declared.fault.LineFault.{LineFault}
use Rattle.bench_script.specs.declared.fault.LineFault.TheVariants as kinds
use Rattle.bench_script.specs.declared.fault.ScriptFault.{ScriptFault}
use Rattle.bench_script.specs.declared.fault.ScriptFault.TheVariants as faults

-- the fault of a script whose line is refused
abbrev pub at_line : LineFault → ℕ → ScriptFault
at_line kinds.NotText line = faults.NotText line
at_line kinds.Word line = faults.Word line
at_line kinds.Count line = faults.Count line
at_line kinds.Number line = faults.Number line

-- the line of a fault, and 0 where memory was wanting
abbrev pub line_of : ScriptFault → ℕ
line_of (faults.NotText line) = line
line_of (faults.Word line) = line
line_of (faults.Count line) = line
line_of (faults.Number line) = line
line_of (faults.Long line) = line
line_of faults.NoMemory = 0

-- the kind of a fault, as it is printed
abbrev pub kind_text : ScriptFault → List ℕ
kind_text (faults.NotText line) = codes "NotText"
kind_text (faults.Word line) = codes "Word"
kind_text (faults.Count line) = codes "Count"
kind_text (faults.Number line) = codes "Number"
kind_text (faults.Long line) = codes "Long"
kind_text faults.NoMemory = codes "NoMemory"
