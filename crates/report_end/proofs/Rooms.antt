-- How much an item may count.
use Rattle.std.proofs.Common.{◌+◌, ◌≤◌, List, [], ◌∷◌, arith, Option, Some, None}
use Rattle.mcal_base.specs.declared.answer.Answer.{Answer}
use Rattle.mcal_base.specs.declared.directive.Order.{Order}
use Rattle.mcal_base.specs.declared.moves.Move.{Move}
use Rattle.mcal_base.specs.declared.moves.Move.TheVariants as moves
use Rattle.run_model.specs.Entry.{Said, Happens, Begins, Stays, Steps, Resets}
use Rattle.bench_report.specs.declared.frames.Purpose.{Purpose}
use Rattle.bench_report.specs.declared.frames.Purpose.TheVariants as purposes
use Rattle.bench_report.specs.declared.tally.Tally.{Tally}
use Rattle.bench_report.specs.Report.{move_lines, end_lines}
use Rattle.report_end.specs.Counts.{Counting, total, counted_all, said_counted}

move_total : (t : Tally) (m : Move) → total (counted_all t (move_lines m)) ≤ total t + 1
move_total t (moves.Note notice) = omega arith
move_total t (moves.Report found) = omega arith
move_total t _ = omega arith

end_total : (t : Tally) (frames : List Purpose) (ended : Option Answer) → total (counted_all t (end_lines frames ended)) ≤ total t + 1
end_total t frames None = omega arith
end_total t [] (Some answer) = omega arith
end_total t (purposes.Call service ∷ frames) (Some answer) = omega arith
end_total t (purposes.Handler line ∷ frames) (Some answer) = omega arith

-- a line of a move, and one of an end
pub said_total : (order : Order) (c : Counting) (said : Said) → total (said_counted order c said).tally ≤ total c.tally + 2
said_total order c (Happens o) = omega arith
said_total order c Begins = omega arith
said_total order c (Stays cause) = omega arith
said_total order c (Steps step) =
    let a = move_total c.tally step.made in
    let b = end_total (counted_all c.tally (move_lines step.made)) c.frames step.ended in
    omega (arith, a, b)
said_total order c (Resets reason dropped) = omega arith
