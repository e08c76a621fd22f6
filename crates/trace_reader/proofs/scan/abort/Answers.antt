use Rattle.trace_reader.proofs.scan.abort.Goals as goal

pub returns : goal.returns
returns c = record { text = c.in_ok-rest.ensures; number = tt }
