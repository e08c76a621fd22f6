use Rattle.report_modules.proofs.CarryLaws.{carried_ok}
use Rattle.report_modules.proofs.VerdictLaws.{complete_ok, sound_ok}
use Rattle.report_modules.proofs.entry.audit.Goals as goal

pub returns-clause-is : goal.returns-clause-is
returns-clause-is c = carried_ok c.args.devices c.args.config.now c.args.script.now c.args.report.now _ c.in_ok-bench.bench.devices c.in_ok-bench.bench.bus c.in_ok-bench.ensures.devices c.in_ok-bench.ensures.chip c.audit.ensures.audits

pub returns-clause-sound : goal.returns-clause-sound
returns-clause-sound c = sound_ok c.args.devices c.args.config.now c.args.script.now c.args.report.now c.requires.script _
    (carried_ok c.args.devices c.args.config.now c.args.script.now c.args.report.now _ c.in_ok-bench.bench.devices c.in_ok-bench.bench.bus c.in_ok-bench.ensures.devices c.in_ok-bench.ensures.chip c.audit.ensures.audits)

pub returns-clause-complete : goal.returns-clause-complete
returns-clause-complete c = complete_ok c.args.devices c.args.config.now c.args.script.now c.args.report.now c.requires.script _
    (carried_ok c.args.devices c.args.config.now c.args.script.now c.args.report.now _ c.in_ok-bench.bench.devices c.in_ok-bench.bench.bus c.in_ok-bench.ensures.devices c.in_ok-bench.ensures.chip c.audit.ensures.audits)
