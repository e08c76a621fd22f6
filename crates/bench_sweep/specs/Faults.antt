-- The lines that are printed of a script that is no sweep.
use Rattle.std.specs.Prelude.{ℕ, ◌++◌, List, codes, decimal}
use Rattle.bench_sweep.specs.declared.fault.SweepFault.{SweepFault}
use Rattle.bench_sweep.specs.declared.fault.SweepFault.TheVariants as faults
use Rattle.bench_sweep.specs.declared.marking.Mark.{Mark}
use Rattle.bench_sweep.specs.declared.marking.Mark.TheVariants as marks
use Rattle.bench_sweep.specs.declared.marking.Part.{Part}
use Rattle.bench_sweep.specs.declared.marking.Part.TheVariants.{Before, Swept, Second, Block, Behind}

-- the word of a mark
abbrev pub mark_text : Mark → List ℕ
mark_text marks.Sweep = codes "sweep"
mark_text marks.And = codes "and"
mark_text marks.Over = codes "over"
mark_text marks.End = codes "end"

-- the marks that may end a part
abbrev pub ends_text : Part → List ℕ
ends_text Before = codes "sweep"
ends_text Swept = codes "and or over"
ends_text Second = codes "over"
ends_text Block = codes "end"
ends_text Behind = codes "none"

-- what is wrong with a mark in a part
abbrev pub misplaced_text : Mark → Part → List ℕ
misplaced_text mark Behind = mark_text mark ++ codes " behind end, where no mark may stand"
misplaced_text mark part = mark_text mark ++ (codes ", where the next mark may be " ++ ends_text part)

-- the kind of a fault and what is wrong, behind its line
abbrev pub kind_text : SweepFault → List ℕ
kind_text (faults.Misplaced line mark part) = codes "Misplaced: " ++ misplaced_text mark part
kind_text (faults.Unended line part) = codes "Unended: the script ends, where the next mark must be " ++ ends_text part
kind_text (faults.Empty line mark) = codes "Empty: no directive behind " ++ (mark_text mark ++ codes ", where one or more must stand")
kind_text (faults.Notice line) = codes "Notice: on, where on CALLBACK ID do L SERVICE .. must stand"
kind_text (faults.Reaction line) = codes "Reaction: what follows a notice must be one do L SERVICE .."
kind_text (faults.Level line) = codes "Level: do without a level, where do L SERVICE .. must stand, with L from 0 to 7"
kind_text (faults.Doubled line first) = codes "Doubled: on for the notice of line " ++ (decimal first ++ codes ", where one line may name it")
kind_text (faults.NoStep line) = codes "NoStep: no directive of the block makes a step, where one or more must"

-- the line of a fault
abbrev pub line_of : SweepFault → ℕ
line_of (faults.Misplaced line mark part) = line
line_of (faults.Unended line part) = line
line_of (faults.Empty line mark) = line
line_of (faults.Notice line) = line
line_of (faults.Reaction line) = line
line_of (faults.Level line) = line
line_of (faults.Doubled line first) = line
line_of (faults.NoStep line) = line

-- the line that is printed
abbrev pub fault_text : SweepFault → List ℕ
fault_text fault = codes "sweep fault " ++ (decimal (line_of fault) ++ (codes " " ++ (kind_text fault ++ codes "\n")))
