use Rattle.trace_reader.proofs.Scanning.{serves}
use Rattle.trace_reader.proofs.scan.serve.Goals as goal

pub returns : goal.returns
returns c = serves c.args.text.now c.in_ok-rest.rest.now c.in_ok-line.rest.now c.in_ok-line.line c.in_ok-rest.ensures c.in_ok-line.ensures
