-- The marks of a sweep's script: which line is one, which may follow which part, and where they stand.
use Rattle.std.specs.Prelude.{ℕ, ◌+◌, List, [], ◌∷◌, Option, Some, None, Result, Ok, Err, codes, bytes_eq, if◌then◌else◌}
use Rattle.bench_sweep.specs.Lines.{asked, lines_in}
use Rattle.bench_sweep.specs.declared.fault.SweepFault.{SweepFault}
use Rattle.bench_sweep.specs.declared.fault.SweepFault.TheVariants.{Misplaced, Unended}
use Rattle.bench_sweep.specs.declared.marking.Mark.{Mark}
use Rattle.bench_sweep.specs.declared.marking.Mark.TheVariants.{Sweep, And, Over, End}
use Rattle.bench_sweep.specs.declared.marking.Marks.{Marks}
use Rattle.bench_sweep.specs.declared.marking.Part.{Part}
use Rattle.bench_sweep.specs.declared.marking.Part.TheVariants.{Before, Swept, Second, Block, Behind}

-- the mark that a word is
abbrev pub mark_named : List ℕ → Option Mark
mark_named word =
    if bytes_eq word (codes "sweep") then Some Sweep
    else if bytes_eq word (codes "and") then Some And
    else if bytes_eq word (codes "over") then Some Over
    else if bytes_eq word (codes "end") then Some End
    else None

-- the mark that a line is
abbrev pub mark_on : List ℕ → Option Mark
mark_on line = mark_named (asked line)

-- the part that a mark begins behind another, where it may stand there
abbrev pub part_behind : Part → Mark → Option Part
part_behind Before Sweep = Some Swept
part_behind Swept And = Some Second
part_behind Swept Over = Some Block
part_behind Second Over = Some Block
part_behind Block End = Some Behind
part_behind _ _ = None

-- no marks yet
abbrev pub no_marks : Marks
no_marks = record { sweep = 0; second = None; over = 0; end = 0 }

-- one mark more, on a line
abbrev pub with_mark : Marks → Mark → ℕ → Marks
with_mark marks Sweep line = record marks { sweep = line }
with_mark marks And line = record marks { second = Some line }
with_mark marks Over line = record marks { over = line }
with_mark marks End line = record marks { end = line }

-- what a mark on a line makes of the part and the marks before it, where it may begin a part
abbrev pub begun_by : ℕ → Mark → Part × Marks → Option Part → Result (Part × Marks) SweepFault
begun_by line mark now None = Err (Misplaced line mark now.0)
begun_by line mark now (Some next) = Ok (next, with_mark now.1 mark line)

-- what a line makes of them
abbrev pub with_line : ℕ → Option Mark → Part × Marks → Result (Part × Marks) SweepFault
with_line line None now = Ok now
with_line line (Some mark) now = begun_by line mark now (part_behind now.0 mark)

-- the marks of a script that ends in a part
abbrev pub ended_in : ℕ → Part → Marks → Result Marks SweepFault
ended_in last Behind marks = Ok marks
ended_in last part marks = Err (Unended last part)

-- the marks of a script, by what came of a line, and by what lines behind it make of that
abbrev pub marks_then : (Part × Marks → Result Marks SweepFault) → Result (Part × Marks) SweepFault → Result Marks SweepFault
marks_then rest (Err fault) = Err fault
marks_then rest (Ok now) = rest now

-- the marks of a script, by its lines behind so many, and by the part and the marks before them
abbrev pub marks_behind : ℕ → List (List ℕ) → Part × Marks → Result Marks SweepFault
marks_behind count [] now = ended_in count now.0 now.1
marks_behind count (line ∷ lines) now = marks_then (marks_behind (count + 1) lines) (with_line (count + 1) (mark_on line) now)

-- the marks of a script, or why it has none
abbrev pub marks_of : List ℕ → Result Marks SweepFault
marks_of text = marks_behind 0 (lines_in text) (Before, no_marks)
