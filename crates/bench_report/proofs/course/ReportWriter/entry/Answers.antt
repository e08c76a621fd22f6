use Rattle.std.proofs.Common.{◌≡◌, sym, subst}
use Rattle.bench_report.specs.Pages as pages
use Rattle.bench_report.specs.Report as report
use Rattle.run_model.specs.Entry.{entry_at}
use Rattle.run_model.specs.Packing.{item_of, entries_in}
use Rattle.bench_report.proofs.course.ReportWriter.entry.Goals as goal

pub returns-then-is_silent : goal.returns-then-is_silent
returns-then-is_silent c =
    let lists = c.args.lists.now in
    let next = report.steps_next (report.own_entries c.args.directive.now.line (entries_in lists c.args.after.now)) in
    subst (λ t. c.args.self.now ≡ pages.entry_put t c.args.directive.now c.args.self.now next (entry_at lists.words.now (item_of lists.rests.now c.args.item.now)))
    (sym (c.if-not-traced.true)) (sym (c.if-is_silent.ensures c.args.directive.now c.args.self.now next lists))
