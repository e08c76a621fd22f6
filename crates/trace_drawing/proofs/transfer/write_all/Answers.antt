use Rattle.std.proofs.Common.{ℕ, ◌∙◌, arith, length-take, length-drop}
use Rattle.std.proofs.Math.Seq.{take-add}
use Rattle.std.proofs.lemmas.List.{take_rest}
use Rattle.trace_drawing.proofs.Known.{appends_twice}
use Rattle.trace_drawing.proofs.transfer.write_all.Goals as goal

pub loop-done-preserved : goal.loop-done-preserved
loop-done-preserved g c =
    record {
      within = omega (arith, c.in_ok-done.ensures.bound, length-take {A = ℕ}, length-drop {A = ℕ});
      wrote = rw take-add (appends_twice _ _ _ _ _ c.loop-done.invariant.wrote (rw take_rest at c.in_ok-done.ensures.bytes));
      still = c.in_ok-done.ensures.cause.ok ∙ c.loop-done.invariant.still;
    }
