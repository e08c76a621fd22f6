use Rattle.std.proofs.Common.{arith, vec_len}
use Rattle.bench_top.proofs.Calling.{hung_so, told_printed}
use Rattle.bench_top.proofs.Scripts.{may_ask, may_run}
use Rattle.bench_top.proofs.top.act.Goals as goal

pub run_and_report-requires-clause-script : goal.run_and_report-requires-clause-script
run_and_report-requires-clause-script g c = rw c.deref-in-Run.ensures.value (may_run c.args.read.script.items c.requires.script)

pub run_and_report-requires-clause-offered : goal.run_and_report-requires-clause-offered
run_and_report-requires-clause-offered g c = may_ask c.deref-in-Run.result.now

pub returns-in-Check-clause-told : goal.returns-in-Check-clause-told
returns-in-Check-clause-told g c = told_printed (vec_len c.args.rack.now) _ _ _ _ (c.check.ensures (vec_len c.args.rack.now)) (hung_so _ c.args.rack.now.items (vec_len c.args.rack.now) (omega arith))

pub returns-in-Check-clause-concludes : goal.returns-in-Check-clause-concludes
returns-in-Check-clause-concludes g c = rw c.in-Check.is (rw c.deref.ensures.value at (c.check.ensures (vec_len c.args.rack.now)))
