use Rattle.std.proofs.Common.{sym, ap, ◌∙◌}
use Rattle.std.specs.Prelude.{Err}
use Rattle.bench_sweep.specs.declared.fault.SweepFault.TheVariants as faults
use Rattle.sweep_top.specs.Sweeps.{NoStep}
use Rattle.sweep_top.specs.declared.board.Board.{Board}
use Rattle.sweep_top.specs.declared.ends.SweepEnd.TheVariants.{Fault}
use Rattle.sweep_top.proofs.Concluding.{opening_ends, read_ends}
use Rattle.sweep_top.proofs.top.sweep_read.Goals as goal

pub returns-in-Err : goal.returns-in-Err
returns-in-Err g c =
    let bench = c.bench_of.result in
    opening_ends c.args.asked c.args.configuration.now c.args.script.now c.args.marks c.args.parts bench.following bench.runs.now.configuration.now c.args.reactions.now c.in-Err.stop (ap (λ (b : Board). b.configuration.now) c.bench_of.ensures.runs) c.bench_of.ensures.calls c.bench_of.ensures.sweep c.bench_of.ensures.over c.in-Err.ensures.stopped

pub returns-then-not-has_steps : goal.returns-then-not-has_steps
returns-then-not-has_steps g c =
    let bench = c.bench_of.result in
    let o = c.in-Ok.opened in
    read_ends c.args.asked c.args.configuration.now c.args.script.now c.args.marks c.args.parts bench.following bench.runs.now.configuration.now c.args.reactions.now o (Err (Fault (faults.NoStep c.args.marks.over))) (ap (λ (b : Board). b.configuration.now) c.bench_of.ensures.runs) c.bench_of.ensures.calls c.bench_of.ensures.sweep c.bench_of.ensures.over c.in-Ok.ensures.opened
    (λ opened m. NoStep bench.following o opened (sym c.has_steps.ensures ∙ c.if-not-has_steps.true))

pub returns-in-Some : goal.returns-in-Some
returns-in-Some g c =
    let bench = c.bench_of.result in
    let o = c.in-Ok.opened in
    read_ends c.args.asked c.args.configuration.now c.args.script.now c.args.marks c.args.parts bench.following bench.runs.now.configuration.now c.args.reactions.now o c.shown_place.result (ap (λ (b : Board). b.configuration.now) c.bench_of.ensures.runs) c.bench_of.ensures.calls c.bench_of.ensures.sweep c.bench_of.ensures.over c.in-Ok.ensures.opened
    (λ opened. c.shown_place.ensures c.args.marks opened (sym c.has_steps.ensures ∙ c.if-not-has_steps.false))

pub returns : goal.returns
returns g c =
    let bench = c.bench_of.result in
    let o = c.in-Ok.opened in
    read_ends c.args.asked c.args.configuration.now c.args.script.now c.args.marks c.args.parts bench.following bench.runs.now.configuration.now c.args.reactions.now o c.made.result (ap (λ (b : Board). b.configuration.now) c.bench_of.ensures.runs) c.bench_of.ensures.calls c.bench_of.ensures.sweep c.bench_of.ensures.over c.in-Ok.ensures.opened
    (λ opened. c.made.ensures c.args.marks opened (sym c.has_steps.ensures ∙ c.if-not-has_steps.false))
