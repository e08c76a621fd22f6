use Rattle.trace_reader.proofs.Scanning.{line_behind}
use Rattle.trace_reader.proofs.scan.step_line.Goals as goal

pub returns : goal.returns
returns c = line_behind c.args.text.now c.in_ok-number.rest.now c.in_ok-rest.rest.now c.in_ok-number.number c.step.result c.in_ok-number.ensures c.in_ok-rest.ensures c.step.ensures
