-- The parts of a sweep's script.
use Rattle.std.specs.Prelude.{ℕ, ◌==◌, nat_lt, List, length, Option, Some, None, Result, Ok, Err, take, drop, unwrap_or, if◌then◌else◌}
use Rattle.std.specs.List.{position}
use Rattle.mcal_base.specs.declared.directive.Directive.{Directive}
use Rattle.bench_sweep.specs.Lines.{or_length}
use Rattle.bench_sweep.specs.declared.fault.SweepFault.{SweepFault}
use Rattle.bench_sweep.specs.declared.fault.SweepFault.TheVariants.{Empty}
use Rattle.bench_sweep.specs.declared.marking.Mark.{Mark}
use Rattle.bench_sweep.specs.declared.marking.Mark.TheVariants.{Sweep, And, Over}
use Rattle.bench_sweep.specs.declared.marking.Marks.{Marks}
use Rattle.bench_sweep.specs.declared.parting.Parts.{Parts}

-- how many directives stand above the first that is below a line
abbrev pub count_above : ℕ → List Directive → ℕ
count_above line directives = or_length directives (position (λ d. nat_lt line d.line) directives)

-- the directives above a line
abbrev pub above : ℕ → List Directive → List Directive
above line directives = take (count_above line directives) directives

-- the directives from the first on that is below a line
abbrev pub below : ℕ → List Directive → List Directive
below line directives = drop (count_above line directives) directives

-- what runs before the block, what is placed, what is placed a second time, the block, and what runs behind it
pub record Pieces : Type 0 where
  pub before : List Directive
  pub swept : List Directive
  pub second : List Directive
  pub block : List Directive
  pub behind : List Directive

-- the pieces of a script between its marks
abbrev pub pieces_between : List Directive → Marks → Pieces
pieces_between directives marks =
    let from_sweep = below marks.sweep directives in
    let placed = above marks.over from_sweep in
    let from_over = below marks.over from_sweep in
    let second = unwrap_or marks.second marks.over in
    record { before = above marks.sweep directives; swept = above second placed; second = below second placed; block = above marks.end from_over; behind = below marks.end from_over }

-- the parts of a script as its pieces
abbrev pub pieces_of : Parts → Pieces
pieces_of p = record { before = p.before.now; swept = p.swept.now; second = p.second.now; block = p.block.now; behind = p.behind.now }

-- a directive stands behind a mark of a line, or else that is the fault
abbrev pub filled : ℕ → Mark → List Directive → Result Pieces SweepFault → Result Pieces SweepFault
filled line mark directives rest = if length directives == 0 then Err (Empty line mark) else rest

-- the same behind `and`, where that stands
abbrev pub second_filled : Option ℕ → List Directive → Result Pieces SweepFault → Result Pieces SweepFault
second_filled None directives rest = rest
second_filled (Some line) directives rest = filled line And directives rest

-- the pieces, each of which has a directive where one must stand
abbrev pub whole : Marks → Pieces → Result Pieces SweepFault
whole marks p = filled marks.sweep Sweep p.swept (second_filled marks.second p.second (filled marks.over Over p.block (Ok p)))

-- the parts of a script that has these marks, or why it has none
abbrev pub parts : List Directive → Marks → Result Pieces SweepFault
parts directives marks = whole marks (pieces_between directives marks)
