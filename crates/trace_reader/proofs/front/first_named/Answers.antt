use Rattle.trace_reader.proofs.Fronts.{named_here}
use Rattle.trace_reader.proofs.front.first_named.Goals as goal

pub returns-in-Some : goal.returns-in-Some
returns-in-Some c = named_here c.args.names.now c.loop-name.name-index _ c.args.text.now c.in-Some.rest.now c.loop-name-test.true c.in-Some.ensures
